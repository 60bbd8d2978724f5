-- The numbers that begin alike, coordinate by coordinate: none has
-- more bits than the greatest of them, or fewer than the least.
use Rattle.std.proofs.Common.{◌≡◌, ℕ, ◌+◌, ◌-◌, ◌/◌, ◌%◌, ◌^◌, ◌<◌, ◌≤◌, sym, ap, ◌∙◌, inl, inr, arith, w64}
use Rattle.std.specs.Prelude.{bit_and, bit_or}
use Rattle.std.specs.Int.{bit_at, bit_not}
use Rattle.std.proofs.lemmas.Bool.{cases_lt, cases_eq}
use Rattle.std.proofs.lemmas.Nat.{le-div, pow_pos}
use Rattle.std.proofs.lemmas.Nat.Bits.{bit_at-lt, bit_at_above, bit_at_and, bit_at_not}
use Rattle.std.proofs.lemmas.Nat.Bits.{bit_at_ones, bit_at_ones_above, bit_at_or, same_from_bits}
use Rattle.std.proofs.Math.Nat.{div-mul-le_self}
use Rattle.zorder.specs.Dilated.{IsBetween, dilated}
use Rattle.zorder.proofs.CallerLemmas.{bit_at-other, bit_at-own, bit_at-shr, dilated-lt, top_difference}

-- a number whose bits another has too is no greater
subset_le : (a b : ℕ) → a < 2 ^ 64 → ((i : ℕ) → bit_at a i ≤ bit_at b i) → a ≤ b
subset_le a b fits fewer = elim (cases_lt b a) [
  | inl less ↦ let (i, found) = top_difference 64 b a fits less in
      absurd (omega (arith, fewer i, found.clear, found.set))
  | inr rest ↦ rest
]

dilated_subset : (d c a b : ℕ) →
    a < 2 ^ 64 → b < 2 ^ 64 → ((i : ℕ) → bit_at a i ≤ bit_at b i) → dilated d c a ≤ dilated d c b
dilated_subset d c a b a_fits b_fits fewer =
    subset_le (dilated d c a) (dilated d c b) (dilated-lt d c a) (λ i. elim (cases_eq (i % d) c) [
      | inl own ↦ omega (arith, fewer i, bit_at-own d c a i a_fits own, bit_at-own d c b i b_fits own)
      | inr other ↦ omega (arith, bit_at-other d c a i other)
    ])

module _ (k first below : ℕ)
    (room : k ≤ 64) (fits : first < 2 ^ 64) (below_fits : below < 2 ^ 64) (is : below ≡ 2 ^ k - 1) where
  abbrev pub least : ℕ
  least = bit_and first (bit_not w64 below)

  abbrev pub most : ℕ
  most = bit_or first below

  below_low : (i : ℕ) → i < k → bit_at below i ≡ 1
  below_low i low = ap (λ n. bit_at n i) is ∙ bit_at_ones k i low

  below_high : (i : ℕ) → k ≤ i → bit_at below i ≡ 0
  below_high i high = ap (λ n. bit_at n i) is ∙ bit_at_ones_above k i high

  least_low : (i : ℕ) → i < k → bit_at least i ≡ 0
  least_low i low = omega
      (arith, bit_at_and first (bit_not w64 below) i, bit_at_not w64 below i below_fits (omega arith), below_low i low)

  least_high : (i : ℕ) → k ≤ i → bit_at least i ≡ bit_at first i
  least_high i high = elim (cases_lt i 64) [
    | inl near ↦
        omega (
          arith,
          bit_at_and first (bit_not w64 below) i,
          bit_at_not w64 below i below_fits near,
          below_high i high,
          bit_at-lt first i,
        )
    | inr far ↦ omega (arith, bit_at_and first (bit_not w64 below) i, bit_at_above first 64 i fits far)
  ]

  most_low : (i : ℕ) → i < k → bit_at most i ≡ 1
  most_low i low = omega (arith, bit_at_or first below i, below_low i low, bit_at-lt first i)

  most_high : (i : ℕ) → k ≤ i → bit_at most i ≡ bit_at first i
  most_high i high = omega (arith, bit_at_or first below i, below_high i high, bit_at-lt first i)

  cut : (n : ℕ) → ((i : ℕ) → k ≤ i → bit_at n i ≡ bit_at first i) → n / 2 ^ k ≡ first / 2 ^ k
  cut n agree = same_from_bits
      (n / 2 ^ k) (first / 2 ^ k) (λ j. bit_at-shr n k j ∙ agree (k + j) (omega arith) ∙ sym (bit_at-shr first k j))

  rises : (a b : ℕ) → a ≤ b → a / 2 ^ k ≤ b / 2 ^ k
  rises a b less = le-div (a / 2 ^ k) b (2 ^ k) (pow_pos k) (omega (arith, div-mul-le_self a (2 ^ k)))

  module _ (w : ℕ) (w_fits : w < 2 ^ 64) (from : least ≤ w) (to : w ≤ most) where
    same_high : (i : ℕ) → k ≤ i → bit_at w i ≡ bit_at first i
    same_high i high =
        let same : w / 2 ^ k ≡ first / 2 ^ k =
        omega (arith, rises least w from, rises w most to, cut least least_high, cut most most_high) in
        let place : k + (i - k) ≡ i = omega arith in
        ap (bit_at w) (sym place) ∙ sym (bit_at-shr w k (i - k))
        ∙ ap (λ n. bit_at n (i - k)) same ∙ bit_at-shr first k (i - k) ∙ ap (bit_at first) place

    pub within_cell : (d low high : ℕ) →
        most < 2 ^ 64 → IsBetween d low high least → IsBetween d low high most → IsBetween d low high w
    within_cell d low high most_fits lower upper = record {
      not_below = λ c among. omega (
        arith,
        lower.not_below c among,
        dilated_subset d c least w (omega arith) w_fits
            (λ i. elim (cases_lt i k) [
              | inl below_k ↦ omega (arith, least_low i below_k)
              | inr from_k ↦ omega (arith, least_high i from_k, same_high i from_k)
            ]),
      );
      not_above = λ c among. omega (
        arith,
        upper.not_above c among,
        dilated_subset d c w most w_fits most_fits
            (λ i. elim (cases_lt i k) [
              | inl below_k ↦ omega (arith, most_low i below_k, bit_at-lt w i)
              | inr from_k ↦ omega (arith, most_high i from_k, same_high i from_k)
            ]),
      );
    }
