-- The bits of dilated coordinates: those of the code at the coordinate's
-- places, and 0 elsewhere. They compare as the coordinates do.
use Rattle.std.proofs.Common.{◌≡◌, ◌≢◌, ◌==◌, if◌then◌else◌, ℕ, ◌+◌, ◌-◌, ◌*◌, ◌/◌}
use Rattle.std.proofs.Common.{◌%◌, ◌^◌, ◌<◌, ◌≤◌, sym, ap, ◌∙◌, inl, inr, arith}
use Rattle.std.specs.Prelude.{bit_and}
use Rattle.std.specs.Int.{bit_at}
use Rattle.std.proofs.lemmas.Bool.{cases_lt, cases_eq, cond-true, cond-false, eq-eqb, ne_eqb}
use Rattle.std.proofs.lemmas.Nat.{mod-mul-add, div-add-mod'}
use Rattle.std.proofs.lemmas.Nat.Bits.{bit_at-lt, bit_at_above, bit_at_and, same_from_bits_below}
use Rattle.std.proofs.Math.Nat.{mul-le-mul_left, mul-le-mul_right}
use Rattle.zorder.specs.Codes.{coordinate}
use Rattle.zorder.proofs.BitOrder.{DiffersAt, less_by_bit, top_difference}
use Rattle.zorder.proofs.BitLemmas.{bit_at-shl, bit_at-shl_low}
use Rattle.zorder.proofs.CodeLemmas.{bit_at-coordinate, number_of-lt, bit_at-number_of, below_from_bits}
use Rattle.zorder.specs.Dilated.{dilated}

bit-lt : (d c z i : ℕ) → (if (i % d) == c then bit_at z i else 0) < 2
bit-lt d c z i = elim (cases_eq (i % d) c) [
  | inl same ↦ rw (cond-true ((i % d) == c) (bit_at z i) 0 (eq-eqb _ _ same)) (bit_at-lt z i)
  | inr apart ↦ rw (cond-false ((i % d) == c) (bit_at z i) 0 (ne_eqb _ _ apart)) (omega arith)
]

pub dilated-lt : (d c z : ℕ) → dilated d c z < 2 ^ 64
unfolding dilated
dilated-lt d c z = number_of-lt 64 (λ i. if (i % d) == c then bit_at z i else 0) (bit-lt d c z)

bit_at-dilated : (d c z i : ℕ) → i < 64 → bit_at (dilated d c z) i ≡ (if (i % d) == c then bit_at z i else 0)
unfolding dilated
bit_at-dilated d c z i within =
    bit_at-number_of 64 (λ i. if (i % d) == c then bit_at z i else 0) (bit-lt d c z) i within

-- at the coordinate's places
pub bit_at-own : (d c z i : ℕ) → z < 2 ^ 64 → i % d ≡ c → bit_at (dilated d c z) i ≡ bit_at z i
bit_at-own d c z i fits own = elim (cases_lt i 64) [
  | inl low ↦ bit_at-dilated d c z i low ∙ cond-true ((i % d) == c) (bit_at z i) 0 (eq-eqb _ _ own)
  | inr high ↦ bit_at_above (dilated d c z) 64 i (dilated-lt d c z) high ∙ sym (bit_at_above z 64 i fits high)
]

-- and elsewhere
pub bit_at-other : (d c z i : ℕ) → i % d ≢ c → bit_at (dilated d c z) i ≡ 0
bit_at-other d c z i apart = elim (cases_lt i 64) [
  | inl low ↦ bit_at-dilated d c z i low ∙ cond-false ((i % d) == c) (bit_at z i) 0 (ne_eqb _ _ apart)
  | inr high ↦ bit_at_above (dilated d c z) 64 i (dilated-lt d c z) high
]

-- a one stands at one of the coordinate's places
pub own_from_one : (d c z i : ℕ) → bit_at (dilated d c z) i ≡ 1 → i % d ≡ c
own_from_one d c z i one = elim (cases_eq (i % d) c) [
  | inl same ↦ same
  | inr apart ↦ absurd (omega (arith, bit_at-other d c z i apart))
]

-- where two codes agree above a place, so do their dilated coordinates
pub agree_dilated : (d c a b i : ℕ) →
    a < 2 ^ 64 → b < 2 ^ 64 → bit_at a i ≡ bit_at b i → bit_at (dilated d c a) i ≡ bit_at (dilated d c b) i
agree_dilated d c a b i a_fits b_fits same = elim (cases_eq (i % d) c) [
  | inl own ↦ bit_at-own d c a i a_fits own ∙ same ∙ sym (bit_at-own d c b i b_fits own)
  | inr other ↦ bit_at-other d c a i other ∙ sym (bit_at-other d c b i other)
]

-- the number of the code's bits under the coordinate's mask
pub masked : (d c z mask : ℕ) → z < 2 ^ 64 →
    ((i : ℕ) → i < 64 → i % d ≡ c → bit_at mask i ≡ 1) → ((i : ℕ) → i < 64 → i % d ≢ c → bit_at mask i ≡ 0) →
    bit_and z mask ≡ dilated d c z
masked d c z mask fits ones zeros =
    same_from_bits_below 64 (bit_and z mask) (dilated d c z) small (dilated-lt d c z) (λ i within.
    elim (cases_eq (i % d) c) [
      | inl own ↦ omega (arith, bit_at_and z mask i, ones i within own, bit_at-own d c z i fits own, bit_at-lt z i)
      | inr other ↦ omega (arith, bit_at_and z mask i, zeros i within other, bit_at-other d c z i other)
    ])
  where
    small : bit_and z mask < 2 ^ 64
    small = below_from_bits
        (bit_and z mask) 64 (λ i high. omega (arith, bit_at_and z mask i, bit_at_above z 64 i fits high))

-- a mask of every d-th place, moved up by c
module _ (d c n : ℕ) (some : 0 < d) (below : c < d) where
  moved_first : (i : ℕ) → i % d ≡ c → (c ≤ i) × ((i - c) % d ≡ 0)
  moved_first i own =
      let rows : i / d * d + i % d ≡ i = div-add-mod' i d in
      let back : i / d * d + 0 ≡ i - c = omega arith in
      (omega arith, sym (ap (λ m. m % d) back) ∙ mod-mul-add (i / d) d 0 some)

  first_moved : (i : ℕ) → c ≤ i → (i - c) % d ≡ 0 → i % d ≡ c
  first_moved i from first =
      let rows : (i - c) / d * d + (i - c) % d ≡ i - c = div-add-mod' (i - c) d in
      let place : (i - c) / d * d + c ≡ i = omega arith in
      sym (ap (λ m. m % d) place) ∙ mod-mul-add ((i - c) / d) d c below

  pub moved_one : (i : ℕ) →
      ((j : ℕ) → j < 64 → j % d ≡ 0 → bit_at n j ≡ 1) → i < 64 → i % d ≡ c → bit_at (n * 2 ^ c % 2 ^ 64) i ≡ 1
  moved_one i ones within own =
      let (from, first) = moved_first i own in
      let place : i - c + c ≡ i = omega arith in
      ap (bit_at (n * 2 ^ c % 2 ^ 64)) (sym place)
      ∙ bit_at-shl n c (i - c) (omega arith) ∙ ones (i - c) (omega arith) first

  pub moved_zero : (i : ℕ) →
      ((j : ℕ) → j < 64 → 0 < j % d → bit_at n j ≡ 0) → i < 64 → i % d ≢ c → bit_at (n * 2 ^ c % 2 ^ 64) i ≡ 0
  moved_zero i zeros within other = elim (cases_lt i c) [
    | inl low ↦ bit_at-shl_low n c i low within
    | inr from ↦
        let place : i - c + c ≡ i = omega arith in
        let apart : 0 < (i - c) % d = elim (cases_lt 0 ((i - c) % d))
        [ inl more ↦ more | inr none ↦ absurd (other (first_moved i from (omega arith))) ] in
        ap (bit_at (n * 2 ^ c % 2 ^ 64)) (sym place)
        ∙ bit_at-shl n c (i - c) (omega arith) ∙ zeros (i - c) (omega arith) apart
  ]

-- ---- the order of coordinates

module _ (d c a b : ℕ) (some : 0 < d) (below : c < d) (a_fits : a < 2 ^ 64) (b_fits : b < 2 ^ 64) where
  at_place : (z j : ℕ) → z < 2 ^ 64 → bit_at (dilated d c z) (j * d + c) ≡ bit_at (coordinate d c z) j
  at_place z j fits =
      bit_at-own d c z (j * d + c) fits (mod-mul-add j d c below) ∙ sym (bit_at-coordinate d c z j some fits)

  -- a difference of coordinates is one of dilated coordinates
  dilated_differ : (j : ℕ) →
      DiffersAt j (coordinate d c a) (coordinate d c b) → DiffersAt (j * d + c) (dilated d c a) (dilated d c b)
  dilated_differ j found = record {
    clear = at_place a j a_fits ∙ found.clear;
    set = at_place b j b_fits ∙ found.set;
    above = λ i higher. elim (cases_eq (i % d) c) [
      | inr other ↦ bit_at-other d c a i other ∙ sym (bit_at-other d c b i other)
      | inl own ↦
          let place : i / d * d + c ≡ i = ap (λ r. i / d * d + r) (sym own) ∙ div-add-mod' i d in
          let row : j < i / d = elim (cases_lt j (i / d)) [
            | inl less ↦ less
            | inr rest ↦ let product : i / d * d ≤ j * d = mul-le-mul_right d rest in absurd (omega arith)
          ] in
          ap (bit_at (dilated d c a)) (sym place) ∙ at_place a (i / d) a_fits ∙ found.above (i / d) row
          ∙ sym (at_place b (i / d) b_fits) ∙ ap (bit_at (dilated d c b)) place
    ];
  }

  -- and the other way round
  coordinates_differ : (i : ℕ) →
      DiffersAt i (dilated d c a) (dilated d c b) → DiffersAt (i / d) (coordinate d c a) (coordinate d c b)
  coordinates_differ i found =
      let own : i % d ≡ c = own_from_one d c b i found.set in
      let place : i / d * d + c ≡ i = ap (λ r. i / d * d + r) (sym own) ∙ div-add-mod' i d in
      record {
        clear = sym (at_place a (i / d) a_fits) ∙ ap (bit_at (dilated d c a)) place ∙ found.clear;
        set = sym (at_place b (i / d) b_fits) ∙ ap (bit_at (dilated d c b)) place ∙ found.set;
        above = λ j higher.
            let product : (i / d + 1) * d ≤ j * d = mul-le-mul_right d (omega arith) in
            sym (at_place a j a_fits) ∙ found.above (j * d + c) (omega arith) ∙ at_place b j b_fits;
      }

pub dilated-le : (d c a b : ℕ) →
    0 < d → c < d → a < 2 ^ 64 → b < 2 ^ 64 → coordinate d c a ≤ coordinate d c b → dilated d c a ≤ dilated d c b
dilated-le d c a b some below a_fits b_fits at_most = elim (cases_lt (dilated d c b) (dilated d c a)) [
  | inr rest ↦ rest
  | inl falls ↦
      let (i, found) = top_difference 64 (dilated d c b) (dilated d c a) (dilated-lt d c a) falls in
      absurd (omega (arith, less_by_bit (i / d) _ _ (coordinates_differ d c b a some below b_fits a_fits i found)))
]

pub coordinate-le : (d c a b : ℕ) →
    0 < d → c < d → a < 2 ^ 64 → b < 2 ^ 64 → dilated d c a ≤ dilated d c b → coordinate d c a ≤ coordinate d c b
coordinate-le d c a b some below a_fits b_fits at_most = elim (cases_lt (coordinate d c b) (coordinate d c a)) [
  | inr rest ↦ rest
  | inl falls ↦
      let (j, found) = top_difference 64 (coordinate d c b) (coordinate d c a) coordinate_fits falls in
      absurd (omega (arith, less_by_bit (j * d + c) _ _ (dilated_differ d c b a some below b_fits a_fits j found)))
]
  where
    place_from : (b : ℕ) → b ≤ b * d + c
    place_from b = let product : b * 1 ≤ b * d = mul-le-mul_left b some in omega arith

    coordinate_fits : coordinate d c a < 2 ^ 64
    coordinate_fits = below_from_bits (coordinate d c a) 64
        (λ b high. bit_at-coordinate d c a b some a_fits
        ∙ bit_at_above a 64 (b * d + c) a_fits (omega (arith, place_from b)))
