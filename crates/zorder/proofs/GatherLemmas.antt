-- Coordinates among the places of a code: taken out of them, and put into them.
use Rattle.std.proofs.Common.{◌≡◌, ◌≢◌, ℕ, zero, suc, ◌+◌, ◌-◌, ◌*◌, ◌/◌, ◌%◌, ◌^◌}
use Rattle.std.proofs.Common.{◌<◌, ◌≤◌, min, max, sym, ap, ◌∙◌, inl, inr, arith, lit<}
use Rattle.std.specs.Prelude.{bit_and, bit_or}
use Rattle.std.specs.Int.{bit_at}
use Rattle.std.proofs.lemmas.Bool.{cases_lt}
use Rattle.std.proofs.lemmas.Nat.{and_le_r, mod_below}
use Rattle.std.proofs.lemmas.Nat.Bits.{bit_at-lt, bit_at_and, bit_at_or, bit_at_above, bit_at_mask_above}
use Rattle.std.proofs.lemmas.Nat.Bits.{bit_at_mask_below, bit_at_mask_inside, same_from_bits}
use Rattle.std.proofs.Math.Nat.{mul-le-mul_right}
use Rattle.zorder.specs.Codes.{IsDimension, coordinate_bits, coordinate}
use Rattle.zorder.specs.Spread.{IsSpread}
use Rattle.zorder.proofs.BitLemmas.{bit_at-shl, bit_at-shl_low, bit_at-shr, under_zero}
use Rattle.zorder.proofs.CodeLemmas.{below_from_bits, bit_at-coordinate, past_range}
use Rattle.zorder.proofs.SpreadLemmas.{IsMask}

-- ---- taken out

pub masked-lt : (n a mask z : ℕ) → mask < 2 ^ n → z ≡ bit_and a mask → z < 2 ^ n
masked-lt n a mask z fits is = omega (arith, and_le_r a mask)

module _ (d z : ℕ) (some : 0 < d) (fits : z < 2 ^ 64) where
  -- the first coordinate has no more bits than a code has places for it
  pub coordinate-lt : (n : ℕ) → 64 ≤ n * d → coordinate d 0 z < 2 ^ n
  coordinate-lt n room = below_from_bits (coordinate d 0 z) n (λ b high.
      let product : n * d ≤ b * d = mul-le-mul_right d high in
      bit_at-coordinate d 0 z b some fits ∙ bit_at_above z 64 (b * d + 0) fits (omega arith))

  -- every d-th bit of a code is its first coordinate, spread
  pub first_spread : (mask : ℕ) → IsMask 1 d mask → IsSpread 1 d (coordinate d 0 z) (bit_and z mask)
  first_spread mask ones =
      record { filled = filled; empty = λ j r from within. under_zero z mask (j * d + r) (ones.zeros j r from within) }
    where
      place : (j r : ℕ) → r < 1 → j * d + r ≡ (j * 1 + r) * d + 0
      place j r within = let first : r ≡ 0 = omega arith in omega (arith, ap (λ n. n * d) first)

      filled : (j r : ℕ) → r < 1 → bit_at (bit_and z mask) (j * d + r) ≡ bit_at (coordinate d 0 z) (j * 1 + r)
      filled j r within =
          let bit : bit_at z (j * d + r) ≡ bit_at (coordinate d 0 z) (j * 1 + r) = ap (bit_at z) (place j r within)
          ∙ sym (bit_at-coordinate d 0 z (j * 1 + r) some fits) in
          elim (cases_lt (j * d + r) 64) [
            | inl near ↦
                omega (arith, bit_at_and z mask (j * d + r), ones.ones j r within near, bit_at-lt z (j * d + r), bit)
            | inr far ↦ under_zero z mask (j * d + r) (bit_at_above mask 64 (j * d + r) ones.fits far)
                ∙ sym (bit_at_above z 64 (j * d + r) fits far) ∙ bit
          ]

-- three blocks of a byte, put side by side
module _ (x y : ℕ) (fits : x < 2 ^ 22) (spread : IsSpread 8 24 x y) where
  abbrev pub three_bytes : ℕ
  three_bytes = bit_or (bit_or (bit_and y 0xff) (bit_and (y / 2 ^ 16) 0xff00)) (bit_and (y / 2 ^ 32) 0xff0000)

  parts : (i : ℕ) →
      bit_at three_bytes i ≡ max (max (min (bit_at y i) (bit_at 0xff i)) (min (bit_at y (16 + i)) (bit_at 0xff00 i)))
      (min (bit_at y (32 + i)) (bit_at 0xff0000 i))
  parts i =
      let second : bit_at (bit_and (y / 2 ^ 16) 0xff00) i ≡ min (bit_at y (16 + i)) (bit_at 0xff00 i) =
      bit_at_and (y / 2 ^ 16) 0xff00 i ∙ ap (λ n. min n (bit_at 0xff00 i)) (bit_at-shr y 16 i) in
      let third : bit_at (bit_and (y / 2 ^ 32) 0xff0000) i ≡ min (bit_at y (32 + i)) (bit_at 0xff0000 i) =
      bit_at_and (y / 2 ^ 32) 0xff0000 i ∙ ap (λ n. min n (bit_at 0xff0000 i)) (bit_at-shr y 32 i) in
      omega (
        arith,
        bit_at_or (bit_or (bit_and y 0xff) (bit_and (y / 2 ^ 16) 0xff00)) (bit_and (y / 2 ^ 32) 0xff0000) i,
        bit_at_or (bit_and y 0xff) (bit_and (y / 2 ^ 16) 0xff00) i,
        bit_at_and y 0xff i,
        second,
        third,
      )

  bit_same : (i : ℕ) → bit_at three_bytes i ≡ bit_at x i
  bit_same i = elim (cases_lt i 8) [
    | inl first ↦
        let here : bit_at y i ≡ bit_at x i = ap (bit_at y) (omega arith)
        ∙ spread.filled 0 i first ∙ ap (bit_at x) (omega arith) in
        omega (
          arith,
          parts i,
          here,
          bit_at-lt x i,
          bit_at_mask_inside 0 8 i (omega arith) first,
          bit_at_mask_below 8 16 i (omega arith),
          bit_at_mask_below 16 24 i (omega arith),
        )
    | inr from_8 ↦ elim (cases_lt i 16) [
      | inl second ↦
          let here : bit_at y (16 + i) ≡ bit_at x i = ap (bit_at y) (omega arith)
          ∙ spread.filled 1 (i - 8) (omega arith) ∙ ap (bit_at x) (omega arith) in
          omega (
            arith,
            parts i,
            here,
            bit_at-lt x i,
            bit_at_mask_above 0 8 i from_8,
            bit_at_mask_inside 8 16 i from_8 second,
            bit_at_mask_below 16 24 i (omega arith),
          )
      | inr from_16 ↦ elim (cases_lt i 24) [
        | inl third ↦
            let here : bit_at y (32 + i) ≡ bit_at x i = ap (bit_at y) (omega arith)
            ∙ spread.filled 2 (i - 16) (omega arith) ∙ ap (bit_at x) (omega arith) in
            omega (
              arith,
              parts i,
              here,
              bit_at-lt x i,
              bit_at_mask_above 0 8 i from_8,
              bit_at_mask_above 8 16 i from_16,
              bit_at_mask_inside 16 24 i from_16 third,
            )
        | inr far ↦
            omega (
              arith,
              parts i,
              bit_at_above x 22 i fits (omega arith),
              bit_at_mask_above 0 8 i from_8,
              bit_at_mask_above 8 16 i from_16,
              bit_at_mask_above 16 24 i far,
            )
      ]
    ]
  ]

  pub bytes_gathered : three_bytes ≡ x
  bytes_gathered = same_from_bits three_bytes x bit_same

-- ---- put in

module _ (d c value spread before : ℕ)
    (dimension : IsDimension d) (among : c < d) (is_spread : IsSpread 1 d value spread) where
  shifted-lt : spread * 2 ^ c % 2 ^ 64 < 2 ^ 64
  shifted-lt = mod_below (spread * 2 ^ c) (2 ^ 64) (lit< tt)

  -- the places of the coordinate hold its bits
  pub place_same : (b : ℕ) → value < 2 ^ coordinate_bits d → bit_at before (b * d + c) ≡ 0
      → bit_at (bit_or before (spread * 2 ^ c % 2 ^ 64)) (b * d + c) ≡ bit_at value b
  place_same b range free =
      omega (arith, bit_at_or before (spread * 2 ^ c % 2 ^ 64) (b * d + c), free, bit_at-lt value b, moved)
    where
      moved : bit_at (spread * 2 ^ c % 2 ^ 64) (b * d + c) ≡ bit_at value b
      moved = elim (cases_lt (b * d + c) 64) [
        | inl near ↦ bit_at-shl spread c (b * d) near
            ∙ ap (bit_at spread) (omega arith) ∙ is_spread.filled b 0 (lit< tt) ∙ ap (bit_at value) (omega arith)
        | inr far ↦ bit_at_above (spread * 2 ^ c % 2 ^ 64) 64 (b * d + c) shifted-lt far
            ∙ sym (bit_at_above value (coordinate_bits d) b range (past_range d dimension b c among far))
      ]

  -- the places of the others hold what they did
  pub place_other : (b k : ℕ) →
      k < d → k ≢ c → bit_at (bit_or before (spread * 2 ^ c % 2 ^ 64)) (b * d + k) ≡ bit_at before (b * d + k)
  place_other b k within apart =
      omega (arith, bit_at_or before (spread * 2 ^ c % 2 ^ 64) (b * d + k), none, bit_at-lt before (b * d + k))
    where
      lower : (b : ℕ) → k < c → b * d + k < 64 → bit_at (spread * 2 ^ c % 2 ^ 64) (b * d + k) ≡ 0
      lower zero less near = bit_at-shl_low spread c (zero * d + k) (omega arith) near
      lower (suc p) less near =
          let place : suc p * d + k ≡ p * d + (d + k - c) + c = omega arith in
          ap (bit_at (spread * 2 ^ c % 2 ^ 64)) place ∙ bit_at-shl spread c (p * d + (d + k - c)) (omega arith)
          ∙ is_spread.empty p (d + k - c) (omega arith) (omega arith)

      higher : c < k → b * d + k < 64 → bit_at (spread * 2 ^ c % 2 ^ 64) (b * d + k) ≡ 0
      higher more near =
          let place : b * d + k ≡ b * d + (k - c) + c = omega arith in
          ap (bit_at (spread * 2 ^ c % 2 ^ 64)) place ∙ bit_at-shl spread c (b * d + (k - c)) (omega arith)
          ∙ is_spread.empty b (k - c) (omega arith) (omega arith)

      none : bit_at (spread * 2 ^ c % 2 ^ 64) (b * d + k) ≡ 0
      none = elim (cases_lt (b * d + k) 64) [
        | inl near ↦ elim (cases_lt k c) [ inl less ↦ lower b less near | inr from ↦ higher (omega arith) near ]
        | inr far ↦ bit_at_above (spread * 2 ^ c % 2 ^ 64) 64 (b * d + k) shifted-lt far
      ]
