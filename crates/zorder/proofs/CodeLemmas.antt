-- Codes and coordinates: each is the other's inverse, and codes rise with their coordinates. For the crates above too.
use Rattle.std.proofs.Common.{◌≡◌, ℕ, zero, suc, ◌+◌, ◌-◌, ◌*◌, ◌/◌, ◌%◌, ◌^◌, ◌<◌, ◌≤◌, List}
use Rattle.std.proofs.Common.{slice_index, refl, sym, ap, ◌∙◌, subst, inl, inr, arith, lit<}
use Rattle.std.specs.Int.{bit_at}
use Rattle.std.proofs.lemmas.Bool.{cases_lt}
use Rattle.std.proofs.lemmas.Nat.{pow_pos, mod_below, div-mul-add, mod-mul-add, div-add-mod', le-div}
use Rattle.std.proofs.lemmas.Nat.Bits.{bit_at-lt, bit_at_above, bit_at_cat_low, bit_at_cat_high}
use Rattle.std.proofs.lemmas.Nat.Bits.{bit_at_lowest, same_from_bits, same_from_bits_below}
use Rattle.std.proofs.Math.Nat.{pow-suc, mul-le-mul_left, mul-le-mul_right}
use Rattle.zorder.specs.Codes.{IsDimension, coordinate_bits, IsInRange, IsCode}
use Rattle.zorder.specs.Codes.{IsCodeOf, number_of, coordinate, code, IsNowhereAbove}
use Rattle.zorder.proofs.BitLemmas.{bit_at-mod, bit_at-shr}
use Rattle.zorder.proofs.BitOrder.{DiffersAt, top_difference, less_by_bit}

-- ---- numbers by their bits

pub number_of-lt : (count : ℕ) (bit : ℕ → ℕ) → ((i : ℕ) → bit i < 2) → number_of count bit < 2 ^ count
unfolding number_of
number_of-lt zero bit bits = lit< tt
number_of-lt (suc count) bit bits =
    elim (cases_lt (bit count) 1) [
      | inl low ↦
          let none : bit count ≡ 0 = omega arith in
          let product : bit count * 2 ^ count ≡ 0 = ap (λ n. n * 2 ^ count) none ∙ omega arith in
          omega (arith, number_of-lt count bit bits, pow-suc 2 count)
      | inr high ↦
          let one : bit count ≡ 1 = omega (arith, bits count) in
          let product : bit count * 2 ^ count ≡ 2 ^ count = ap (λ n. n * 2 ^ count) one ∙ omega arith in
          omega (arith, number_of-lt count bit bits, pow-suc 2 count)
    ]

pub bit_at-number_of : (count : ℕ) (bit : ℕ → ℕ) →
    ((i : ℕ) → bit i < 2) → (i : ℕ) → i < count → bit_at (number_of count bit) i ≡ bit i
unfolding number_of
bit_at-number_of zero bit bits i within = absurd (omega arith)
bit_at-number_of (suc count) bit bits i within =
    elim (cases_lt i count) [
      | inl low ↦ bit_at_cat_low (bit count) count (number_of count bit) i low ∙ bit_at-number_of count bit bits i low
      | inr last ↦
          let here : i ≡ count = omega arith in
          let top : i - count ≡ 0 = omega arith in
          bit_at_cat_high (bit count) count (number_of count bit) i (number_of-lt count bit bits) last
          ∙ ap (bit_at (bit count)) top ∙ bit_at_lowest (bit count) ∙ omega (arith, bits count, ap bit here)
    ]

-- a number with no bit from k on is below 2 ^ k
pub below_from_bits : (n k : ℕ) → ((i : ℕ) → k ≤ i → bit_at n i ≡ 0) → n < 2 ^ k
below_from_bits n k none =
    let same : n % 2 ^ k ≡ n = same_from_bits (n % 2 ^ k) n (λ i. elim (cases_lt i k) [
      | inl low ↦ bit_at-mod n k i low
      | inr high ↦ bit_at_above (n % 2 ^ k) k i (mod_below n (2 ^ k) (pow_pos k)) high ∙ sym (none i high)
    ]) in
    subst (λ m. m < 2 ^ k) same (mod_below n (2 ^ k) (pow_pos k))

-- ---- places

place_from : (d b c : ℕ) → 0 < d → b ≤ b * d + c
place_from d b c some = omega (arith, mul-le-mul_left b some)

-- ---- coordinates

pub bit_at-coordinate : (d c z b : ℕ) → 0 < d → z < 2 ^ 64 → bit_at (coordinate d c z) b ≡ bit_at z (b * d + c)
unfolding coordinate
bit_at-coordinate d c z b some fits =
    let bits : (i : ℕ) → bit_at z (i * d + c) < 2 = λ i. bit_at-lt z (i * d + c) in
    elim (cases_lt b 64) [
      | inl low ↦ bit_at-number_of 64 (λ i. bit_at z (i * d + c)) bits b low
      | inr high ↦
          bit_at_above
          (number_of 64 (λ i. bit_at z (i * d + c))) 64 b (number_of-lt 64 (λ i. bit_at z (i * d + c)) bits) high
          ∙ sym (bit_at_above z 64 (b * d + c) fits (omega (arith, place_from d b c some)))
    ]

-- the number with a coordinate's bits is the coordinate
pub coordinate_from_bits : (d c z x : ℕ) →
    0 < d → z < 2 ^ 64 → ((b : ℕ) → bit_at z (b * d + c) ≡ bit_at x b) → coordinate d c z ≡ x
coordinate_from_bits d c z x some fits bits =
    same_from_bits (coordinate d c z) x (λ b. bit_at-coordinate d c z b some fits ∙ bits b)

-- coordinate c is the first one of the code without its c low bits
pub coordinate-shr : (d c z : ℕ) → 0 < d → z < 2 ^ 64 → coordinate d 0 (z / 2 ^ c) ≡ coordinate d c z
coordinate-shr d c z some fits =
    sym (coordinate_from_bits d c z (coordinate d 0 (z / 2 ^ c)) some fits (λ b.
    sym (bit_at-coordinate d 0 (z / 2 ^ c) b some (shr_fits)
    ∙ bit_at-shr z c (b * d + 0) ∙ ap (bit_at z) (omega arith))))
  where
    shr_fits : z / 2 ^ c < 2 ^ 64
    shr_fits =
        below_from_bits (z / 2 ^ c) 64 (λ i high. bit_at-shr z c i ∙ bit_at_above z 64 (c + i) fits (omega arith))

-- ---- codes

by_dimension : (d : ℕ) → IsDimension d → (P : ℕ → Type 0) → P 2 → P 3 → P 4 → P d
by_dimension d (least, most) P two three four =
    elim (cases_lt d 3) [
      | inl low ↦ let is : 2 ≡ d = omega arith in subst P is two
      | inr rest ↦ elim (cases_lt d 4) [
        | inl low ↦ let is : 3 ≡ d = omega arith in subst P is three
        | inr high ↦ let is : 4 ≡ d = omega arith in subst P is four
      ]
    ]

-- a place past 64 bits is past the bits of a coordinate
pub past_range : (d : ℕ) → IsDimension d → (b c : ℕ) → c < d → 64 ≤ b * d + c → coordinate_bits d ≤ b
past_range d dimension = by_dimension d dimension (λ d. (b c : ℕ) → c < d → 64 ≤ b * d + c → coordinate_bits d ≤ b)
    (λ b c within far. omega arith) (λ b c within far. omega arith) (λ b c within far. omega arith)

-- a bit past those of a coordinate has its place past those of the codes
past_code : (d : ℕ) → IsDimension d → (b c : ℕ) → coordinate_bits d ≤ b → d * coordinate_bits d ≤ b * d + c
past_code d dimension =
    by_dimension d dimension (λ d. (b c : ℕ) → coordinate_bits d ≤ b → d * coordinate_bits d ≤ b * d + c)
    (λ b c high. omega arith) (λ b c high. omega arith) (λ b c high. omega arith)

-- a code has at most 64 bits
pub code_fits : (d z : ℕ) → IsDimension d → IsCode d z → z < 2 ^ 64
code_fits d z dimension =
    by_dimension d dimension (λ d. IsCode d z → z < 2 ^ 64) (λ small. small) (λ small. omega arith) (λ small. small)

-- a number of 64 bits is a code; of three coordinates it has to be below 2 ^ 63
pub is_code : (d z : ℕ) → IsDimension d → z < 2 ^ 64 → (d ≡ 3 → z < 2 ^ 63) → IsCode d z
is_code d z dimension fits = by_dimension d dimension
    (λ d. (d ≡ 3 → z < 2 ^ 63) → IsCode d z) (λ three. fits) (λ three. three refl) (λ three. fits)

-- a coordinate of a code is in range
pub coordinate_below : (d z : ℕ) → IsDimension d → IsCode d z → (c : ℕ) → coordinate d c z < 2 ^ coordinate_bits d
coordinate_below d z dimension small c =
    below_from_bits (coordinate d c z) (coordinate_bits d) (λ b high.
    bit_at-coordinate d c z b (omega (arith, dimension.0)) (code_fits d z dimension small)
    ∙ bit_at_above z (d * coordinate_bits d) (b * d + c) small (past_code d dimension b c high))

-- ---- the code of a point

module _ (d : ℕ) (dimension : IsDimension d) where
  some : 0 < d
  some = omega (arith, dimension.0)

  bit_of-lt : (coords : List ℕ) (i : ℕ) → bit_at (slice_index coords (i % d)) (i / d) < 2
  bit_of-lt coords i = bit_at-lt (slice_index coords (i % d)) (i / d)

  pub code-lt : (coords : List ℕ) → code d coords < 2 ^ 64
  unfolding code
  code-lt coords = number_of-lt 64 (λ i. bit_at (slice_index coords (i % d)) (i / d)) (bit_of-lt coords)

  bit_at-code : (coords : List ℕ) (i : ℕ) →
      i < 64 → bit_at (code d coords) i ≡ bit_at (slice_index coords (i % d)) (i / d)
  unfolding code
  bit_at-code coords i within =
      bit_at-number_of 64 (λ i. bit_at (slice_index coords (i % d)) (i / d)) (bit_of-lt coords) i within

  -- the number with the bits of the coordinates is their code
  pub code_from_bits : (coords : List ℕ) (z : ℕ) → z < 2 ^ 64 → IsCodeOf d coords z → code d coords ≡ z
  code_from_bits coords z fits bits =
      same_from_bits_below 64 (code d coords) z (code-lt coords) fits (λ i within.
      bit_at-code coords i within ∙ sym (bits (i / d) (i % d) (mod_below i d some)) ∙ ap (bit_at z) (div-add-mod' i d))

  pub IsCodeOf-code : (coords : List ℕ) → IsInRange d coords → IsCodeOf d coords (code d coords)
  IsCodeOf-code coords range b c within =
      elim (cases_lt (b * d + c) 64) [
        | inl near ↦
            bit_at-code coords (b * d + c) near
            ∙ ap (λ k. bit_at (slice_index coords k) ((b * d + c) / d)) (mod-mul-add b d c within)
            ∙ ap (bit_at (slice_index coords c)) (div-mul-add b d c within)
        | inr far ↦
            bit_at_above (code d coords) 64 (b * d + c) (code-lt coords) far
            ∙ sym (bit_at_above
            (slice_index coords c) (coordinate_bits d) b (range c within) (past_range d dimension b c within far))
      ]

  -- a number with the bits of coordinates in range is a code
  pub IsCode_from_bits : (coords : List ℕ) (z : ℕ) → IsInRange d coords → IsCodeOf d coords z → IsCode d z
  IsCode_from_bits coords z range bits =
      below_from_bits z (d * coordinate_bits d) (λ i high.
      let row : coordinate_bits d ≤ i / d = le-div (coordinate_bits d) i d some (omega arith) in
      ap (bit_at z) (sym (div-add-mod' i d)) ∙ bits (i / d) (i % d) (mod_below i d some)
      ∙ bit_at_above (slice_index coords (i % d)) (coordinate_bits d) (i / d) (range (i % d) (mod_below i d some)) row)

  pub IsCode-code : (coords : List ℕ) → IsInRange d coords → IsCode d (code d coords)
  IsCode-code coords range = IsCode_from_bits coords (code d coords) range (IsCodeOf-code coords range)

  -- decoding undoes encoding
  pub coordinate-code : (coords : List ℕ) →
      IsInRange d coords → (c : ℕ) → c < d → coordinate d c (code d coords) ≡ slice_index coords c
  coordinate-code coords range c within =
      coordinate_from_bits d c
      (code d coords) (slice_index coords c) some (code-lt coords) (λ b. IsCodeOf-code coords range b c within)

  -- the coordinates of a number have its bits
  pub IsCodeOf_from_coordinates : (coords : List ℕ) (z : ℕ) → z < 2 ^ 64
      → ((c : ℕ) → c < d → slice_index coords c ≡ coordinate d c z) → IsCodeOf d coords z
  IsCodeOf_from_coordinates coords z fits are b c within =
      sym (bit_at-coordinate d c z b some fits) ∙ ap (λ x. bit_at x b) (sym (are c within))

  -- encoding undoes decoding
  pub code_from_coordinates : (coords : List ℕ) (z : ℕ) → z < 2 ^ 64
      → ((c : ℕ) → c < d → slice_index coords c ≡ coordinate d c z) → code d coords ≡ z
  code_from_coordinates coords z fits are = code_from_bits coords z fits (IsCodeOf_from_coordinates coords z fits are)

  -- ---- codes rise with their coordinates

  module _ (a b : ℕ) (a_fits : a < 2 ^ 64) (b_fits : b < 2 ^ 64) where
    no_fall : ((c : ℕ) → c < d → coordinate d c a ≤ coordinate d c b) → (i : ℕ) → DiffersAt i b a → ⊥
    no_fall below i found =
        let within : i % d < d = mod_below i d some in
        let place = div-add-mod' i d in
        let coordinate_falls = less_by_bit (i / d) (coordinate d (i % d) b) (coordinate d (i % d) a) (record {
          clear = bit_at-coordinate d (i % d) b (i / d) some b_fits ∙ ap (bit_at b) place ∙ found.clear;
          set = bit_at-coordinate d (i % d) a (i / d) some a_fits ∙ ap (bit_at a) place ∙ found.set;
          above = λ j higher.
              let product : (i / d + 1) * d ≤ j * d = mul-le-mul_right d (omega arith) in
              bit_at-coordinate d (i % d) b j some b_fits
              ∙ found.above (j * d + i % d) (omega arith) ∙ sym (bit_at-coordinate d (i % d) a j some a_fits);
        }) in
        omega (arith, below (i % d) within)

    -- a number none of whose coordinates is above the other's isn't above the other
    pub rises : ((c : ℕ) → c < d → coordinate d c a ≤ coordinate d c b) → a ≤ b
    rises below =
        elim (cases_lt b a) [
          | inl falls ↦ let (i, found) = top_difference 64 b a a_fits falls in absurd (no_fall below i found)
          | inr rest ↦ rest
        ]

  -- numbers with the same coordinates are the same
  pub same_from_coordinates : (a b : ℕ) →
      a < 2 ^ 64 → b < 2 ^ 64 → ((c : ℕ) → c < d → coordinate d c a ≡ coordinate d c b) → a ≡ b
  same_from_coordinates a b a_fits b_fits same =
      let up : a ≤ b = rises a b a_fits b_fits (λ c within. omega (arith, same c within)) in
      let down : b ≤ a = rises b a b_fits a_fits (λ c within. omega (arith, same c within)) in
      omega arith

  pub code_rises : (lower upper : List ℕ) →
      IsInRange d upper → IsNowhereAbove d lower upper → code d lower ≤ code d upper
  code_rises lower upper range below =
      let lower_range : IsInRange d lower = λ c within. omega (arith, below c within, range c within) in
      rises (code d lower) (code d upper) (code-lt lower) (code-lt upper)
      (λ c within. omega
      (arith, coordinate-code lower lower_range c within, coordinate-code upper range c within, below c within))
