-- Single bits of shifted, masked and cut numbers.
use Rattle.std.proofs.Common.{◌≡◌, ℕ, zero, suc, ◌+◌, ◌-◌, ◌*◌, ◌/◌, ◌%◌, ◌^◌, ◌<◌, Bool}
use Rattle.std.proofs.Common.{true, ◌&&◌, max, sym, ap, ◌∙◌, subst, inl, inr, arith, add-zero}
use Rattle.std.specs.Prelude.{bit_and, bit_or}
use Rattle.std.specs.Int.{bit_at}
use Rattle.std.proofs.lemmas.Bool.{cases_lt, and_parts}
use Rattle.std.proofs.lemmas.Nat.{pow_pos, shr_split, shr-shr}
use Rattle.std.proofs.lemmas.Nat.Bits.{bit_at_and, bit_at_or, bit_at-lt, bit_at_cat_low, bit_at_cat_high, bit_at_above}

-- the low bits of what is cut to w bits
pub bit_at-mod : (n w i : ℕ) → i < w → bit_at (n % 2 ^ w) i ≡ bit_at n i
bit_at-mod n w i within = sym (bit_at_cat_low (n / 2 ^ w) w (n % 2 ^ w) i within) ∙ ap (λ x. bit_at x i) (shr_split n w)

pub bit_at-shr : (n k i : ℕ) → bit_at (n / 2 ^ k) i ≡ bit_at n (k + i)
bit_at-shr n k i = ap (λ x. x % 2) (shr-shr n k i)

-- what is shifted up in 64 bits has no bit below the shift
pub bit_at-shl_low : (n k i : ℕ) → i < k → i < 64 → bit_at (n * 2 ^ k % 2 ^ 64) i ≡ 0
bit_at-shl_low n k i below within =
    bit_at-mod (n * 2 ^ k) 64 i within ∙ ap (λ x. bit_at x i) (sym (add-zero (n * 2 ^ k)))
    ∙ bit_at_cat_low n k 0 i below ∙ bit_at_above 0 0 i (pow_pos 0) (omega arith)

-- and each bit stands higher by the shift
pub bit_at-shl : (n k i : ℕ) → i + k < 64 → bit_at (n * 2 ^ k % 2 ^ 64) (i + k) ≡ bit_at n i
bit_at-shl n k i within =
    let back : i + k - k ≡ i = omega arith in
    bit_at-mod (n * 2 ^ k) 64 (i + k) within ∙ ap (λ x. bit_at x (i + k)) (sym (add-zero (n * 2 ^ k)))
    ∙ bit_at_cat_high n k 0 (i + k) (pow_pos k) (omega arith) ∙ ap (bit_at n) back

-- under a one of the mask there is either's bit, under a zero there is none
pub under_one : (a b mask i : ℕ) →
    bit_at mask i ≡ 1 → bit_at (bit_and (bit_or a b) mask) i ≡ max (bit_at a i) (bit_at b i)
under_one a b mask i one = omega (arith, bit_at_and (bit_or a b) mask i, bit_at_or a b i, bit_at-lt a i, bit_at-lt b i)

pub under_zero : (a mask i : ℕ) → bit_at mask i ≡ 0 → bit_at (bit_and a mask) i ≡ 0
under_zero a mask i none = omega (arith, bit_at_and a mask i)

-- a test of each number below a bound
abbrev pub all_below : ℕ → (ℕ → Bool) → Bool
all_below zero p = true
all_below (suc n) p = p n && all_below n p

pub all_below-true : (n : ℕ) (p : ℕ → Bool) → all_below n p ≡ true → (i : ℕ) → i < n → p i ≡ true
all_below-true zero p all i below = absurd (omega arith)
all_below-true (suc n) p all i below =
    let parts = and_parts (p n) (all_below n p) all in
    elim (cases_lt i n) [
      | inl less ↦ all_below-true n p parts.1 i less
      | inr last ↦ let here : n ≡ i = omega arith in subst (λ k. p k ≡ true) here parts.0
    ]
