-- The codes between two of a cell are of the cell, and so is each of their coordinates.
use Rattle.std.proofs.Common.{◌≡◌, ℕ, ◌+◌, ◌-◌, ◌*◌, ◌/◌, ◌^◌, ◌<◌, ◌≤◌, sym, ap, ◌∙◌, subst, arith, w64}
use Rattle.std.specs.Prelude.{bit_xor}
use Rattle.std.specs.Int.{bit_at, leading_zeros}
use Rattle.std.proofs.lemmas.Nat.{leading_length, xor_lt}
use Rattle.std.proofs.lemmas.Nat.Bits.{bit_at-lt, bit_at_above, bit_at_xor, same_from_bits}
use Rattle.std.proofs.Math.Pow.{shr_mono}
use Rattle.zorder.specs.Codes.{coordinate}
use Rattle.zorder.proofs.CallerLemmas.{bit_at-coordinate, bit_at-shr}

-- two numbers begin alike above all bits in which they differ
pub begin_alike : (a b n : ℕ) → bit_xor a b < 2 ^ n → a / 2 ^ n ≡ b / 2 ^ n
begin_alike a b n small =
    same_from_bits (a / 2 ^ n) (b / 2 ^ n) (λ j. bit_at-shr a n j ∙ same (n + j) (omega arith) ∙ sym (bit_at-shr b n j))
  where
    same : (i : ℕ) → n ≤ i → bit_at a i ≡ bit_at b i
    same i high =
        omega (arith, bit_at_above (bit_xor a b) n i small high, bit_at_xor a b i, bit_at-lt a i, bit_at-lt b i)

-- so does a number between them
pub between_alike : (a b z n : ℕ) → a / 2 ^ n ≡ b / 2 ^ n → a ≤ z → z ≤ b → z / 2 ^ n ≡ a / 2 ^ n
between_alike a b z n same from to = omega (arith, shr_mono n from, shr_mono n to)

-- the coordinates of codes that begin alike do
pub coordinates_alike : (d c a z n free : ℕ) →
    0 < d → a < 2 ^ 64 → z < 2 ^ 64 → z / 2 ^ n ≡ a / 2 ^ n → n ≤ free * d + c
    → coordinate d c z / 2 ^ free ≡ coordinate d c a / 2 ^ free
coordinates_alike d c a z n free some a_fits z_fits same enough =
    same_from_bits (coordinate d c z / 2 ^ free) (coordinate d c a / 2 ^ free) (λ j.
    let high : n ≤ (free + j) * d + c = omega arith in
    bit_at-shr (coordinate d c z) free j
    ∙ bit_at-coordinate d c z (free + j) some z_fits ∙ same_bit ((free + j) * d + c) high
    ∙ sym (bit_at-coordinate d c a (free + j) some a_fits) ∙ sym (bit_at-shr (coordinate d c a) free j))
  where
    same_bit : (i : ℕ) → n ≤ i → bit_at z i ≡ bit_at a i
    same_bit i high =
        let place : n + (i - n) ≡ i = omega arith in
        ap (bit_at z) (sym place) ∙ sym (bit_at-shr z n (i - n))
        ∙ ap (λ m. bit_at m (i - n)) same ∙ bit_at-shr a n (i - n) ∙ ap (bit_at a) place

-- two numbers of 64 bits differ in no higher bit than their exclusive or has
pub differing_bits : (a b : ℕ) → a < 2 ^ 64 → b < 2 ^ 64 → bit_xor a b < 2 ^ (64 - leading_zeros w64 (bit_xor a b))
differing_bits a b a_fits b_fits =
    let x = bit_xor a b in
    let (m, count, below, above) = leading_length 64 x (xor_lt 64 a b a_fits b_fits) in
    let same : m ≡ 64 - leading_zeros w64 x = omega arith in
    subst (λ (n : ℕ). x < 2 ^ n) same below
