-- The greater of two dilated coordinates, and the code that is put together from such, coordinate by coordinate.
use Rattle.std.proofs.Common.{◌≡◌, ◌≢◌, ◌⊎◌, ℕ, ◌+◌, ◌%◌, ◌<◌, ◌≤◌, max, ap, ◌∙◌, inl, inr, arith}
use Rattle.std.specs.Prelude.{bit_or}
use Rattle.std.specs.Int.{bit_at}
use Rattle.std.proofs.lemmas.Bool.{cases_lt, cases_eq}
use Rattle.std.proofs.lemmas.Nat.Bits.{bit_at_or}
use Rattle.zorder.specs.Dilated.{dilated}
use Rattle.zorder.proofs.CallerLemmas.{bit_at-other}

-- the greater of two dilated coordinates is one of them
pub max_cases : (m n : ℕ) → ((n ≤ m) × (max m n ≡ m)) ⊎ ((m < n) × (max m n ≡ n))
max_cases m n = elim (cases_lt m n) [ inl less ↦ inr (less, omega arith) | inr rest ↦ inl (rest, omega arith) ]

pub bit_at-greater_other : (d c a b i : ℕ) → i % d ≢ c → bit_at (max (dilated d c a) (dilated d c b)) i ≡ 0
bit_at-greater_other d c a b i other = elim (max_cases (dilated d c a) (dilated d c b)) [
  | inl (rest, same) ↦ ap (λ m. bit_at m i) same ∙ bit_at-other d c a i other
  | inr (less, same) ↦ ap (λ m. bit_at m i) same ∙ bit_at-other d c b i other
]

-- the code that is put together from them, coordinate by coordinate
pub made_more : (d c first low code more i : ℕ) → more ≡ max (dilated d c first) (dilated d c low) →
    (i % d < c → bit_at code i ≡ bit_at (max (dilated d (i % d) first) (dilated d (i % d) low)) i) →
    (c ≤ i % d → bit_at code i ≡ 0) → i % d < c + 1 →
    bit_at (bit_or code more) i ≡ bit_at (max (dilated d (i % d) first) (dilated d (i % d) low)) i
made_more d c first low code more i is made others below = elim (cases_eq (i % d) c) [
  | inl own ↦
      let here = ap (λ k. bit_at (max (dilated d k first) (dilated d k low)) i) own in
      omega (arith, bit_at_or code more i, others (omega arith), ap (λ m. bit_at m i) is)
  | inr apart ↦
      omega (
        arith,
        bit_at_or code more i,
        made (omega arith),
        ap (λ m. bit_at m i) is,
        bit_at-greater_other d c first low i apart,
      )
]

pub others_more : (d c first low code more i : ℕ) →
    more ≡ max (dilated d c first) (dilated d c low) → (c ≤ i % d → bit_at code i ≡ 0) → c + 1 ≤ i % d →
    bit_at (bit_or code more) i ≡ 0
others_more d c first low code more i is others above =
    omega (
      arith,
      bit_at_or code more i,
      others (omega arith),
      ap (λ m. bit_at m i) is,
      bit_at-greater_other d c first low i (λ own. omega arith),
    )
