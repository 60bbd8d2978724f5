-- Two numbers compare as their highest different bits do.
use Rattle.std.proofs.Common.{◌≡◌, ℕ, zero, suc, ◌/◌, ◌^◌, ◌<◌, sym, ap, ◌∙◌, inl, inr, arith}
use Rattle.std.specs.Int.{bit_at}
use Rattle.std.proofs.lemmas.Bool.{cases_lt, cases_eq}
use Rattle.std.proofs.lemmas.Nat.Bits.{bit_at-suc, bit_at_lowest}
use Rattle.std.proofs.Math.Nat.{pow-suc}

-- bit i is where a and b first differ, seen from above, and only b has it
pub record DiffersAt (i a b : ℕ) : Type 0 where
  pub clear : bit_at a i ≡ 0
  pub set : bit_at b i ≡ 1
  pub above : (j : ℕ) → i < j → bit_at a j ≡ bit_at b j

-- of two numbers the greater has a bit that the lesser hasn't, and above it they agree
pub top_difference : (n a b : ℕ) → b < 2 ^ n → a < b → (i : ℕ) × DiffersAt i a b
top_difference zero a b fits less = absurd (omega arith)
top_difference (suc n) a b fits less =
    elim (cases_lt (a / 2) (b / 2)) [
      | inl half ↦ let (i, found) = top_difference n (a / 2) (b / 2) (omega (arith, pow-suc 2 n)) half in
          (suc i, raised i found)
      | inr rest ↦
          let same : a / 2 ≡ b / 2 = omega arith in (
            zero,
            record { clear = bit_at_lowest a ∙ omega arith; set = bit_at_lowest b ∙ omega arith; above = agree same },
          )
    ]
  where
    agree : a / 2 ≡ b / 2 → (j : ℕ) → zero < j → bit_at a j ≡ bit_at b j
    agree same zero positive = absurd (omega arith)
    agree same (suc j) positive = bit_at-suc a j ∙ ap (λ n. bit_at n j) same ∙ sym (bit_at-suc b j)

    raised : (i : ℕ) → DiffersAt i (a / 2) (b / 2) → DiffersAt (suc i) a b
    raised i found = record { clear = bit_at-suc a i ∙ found.clear; set = bit_at-suc b i ∙ found.set; above = above }
      where
        above : (j : ℕ) → suc i < j → bit_at a j ≡ bit_at b j
        above zero higher = absurd (omega arith)
        above (suc j) higher = bit_at-suc a j ∙ found.above j (omega arith) ∙ sym (bit_at-suc b j)

lt_pow : (n : ℕ) → n < 2 ^ n
lt_pow zero = omega arith
lt_pow (suc n) = omega (arith, lt_pow n, pow-suc 2 n)

-- and whichever has the highest different bit is the greater
pub less_by_bit : (i a b : ℕ) → DiffersAt i a b → a < b
less_by_bit i a b found =
    elim (cases_lt a b) [
      | inl less ↦ less
      | inr from ↦ elim (cases_eq a b) [
        | inl same ↦ let bits : bit_at a i ≡ bit_at b i = ap (λ n. bit_at n i) same in
            absurd (omega (arith, found.clear, found.set))
        | inr apart ↦
            let turned : b < a = omega arith in
            let (j, other) = top_difference a b a (lt_pow a) turned in
            elim (cases_lt i j) [
              | inl higher ↦ absurd (omega (arith, found.above j higher, other.clear, other.set))
              | inr within ↦ elim (cases_eq j i) [
                | inl here ↦ let bits : bit_at a j ≡ bit_at a i = ap (bit_at a) here in
                    absurd (omega (arith, found.clear, other.set))
                | inr lower ↦ let below : j < i = omega arith in
                    absurd (omega (arith, found.clear, found.set, other.above i below))
              ]
            ]
      ]
    ]
