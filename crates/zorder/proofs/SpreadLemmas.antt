-- The steps that pull a number's bits apart and push them together keep every bit.
use Rattle.std.proofs.Common.{◌≡◌, ℕ, zero, suc, ◌+◌, ◌-◌, ◌*◌, ◌/◌, ◌%◌, ◌^◌, ◌<◌, ◌≤◌, Bool}
use Rattle.std.proofs.Common.{true, ◌⊎◌, max, sym, ap, ◌∙◌, subst, inl, inr, arith, eqb, eqb-true}
use Rattle.std.specs.Prelude.{bit_and, bit_or, nat_lt, if◌then◌else◌}
use Rattle.std.specs.Int.{bit_at}
use Rattle.std.proofs.lemmas.Bool.{cases_lt}
use Rattle.std.proofs.lemmas.Bool.Decides.{nat_tests}
use Rattle.std.proofs.lemmas.Nat.{mod-mul-add}
use Rattle.std.proofs.lemmas.Nat.Bits.{bit_at-lt, bit_at_above, same_from_bits_below}
use Rattle.std.proofs.Math.Nat.{mul-le-mul_left, mul-le-mul_right}
use Rattle.zorder.specs.Spread.{IsSpread}
use Rattle.zorder.proofs.BitLemmas.{bit_at-shl_low, bit_at-shl, bit_at-shr}
use Rattle.zorder.proofs.BitLemmas.{under_one, under_zero, all_below, all_below-true}

-- ---- masks

-- the mask has the ones of all whole blocks, and of the block that 64 bits cut
pub record IsMask (block stride mask : ℕ) : Type 0 where
  pub fits : mask < 2 ^ 64
  pub ones : (j r : ℕ) → r < block → j * stride + r < 64 → bit_at mask (j * stride + r) ≡ 1
  pub zeros : (j r : ℕ) → block ≤ r → r < stride → bit_at mask (j * stride + r) ≡ 0

-- a test of a mask, bit by bit
abbrev pub mask_test : ℕ → ℕ → ℕ → Bool
mask_test block stride mask = all_below 64 (λ i. eqb (bit_at mask i) (if nat_lt (i % stride) block then 1 else 0))

pub when_below : (r block n : ℕ) → r < block → n ≡ (if nat_lt r block then 1 else 0) → n ≡ 1
when_below r block n below e = grind (arith, nat_tests)

pub when_from : (r block n : ℕ) → block ≤ r → n ≡ (if nat_lt r block then 1 else 0) → n ≡ 0
when_from r block n from e = grind (arith, nat_tests)

pub is_mask : (block stride mask : ℕ) →
    block ≤ stride → mask < 2 ^ 64 → mask_test block stride mask ≡ true → IsMask block stride mask
is_mask block stride mask room fits tested = record { fits = fits; ones = ones; zeros = zeros }
  where
    at : (j r : ℕ) → r < stride → j * stride + r < 64 → bit_at mask (j * stride + r) ≡ (if nat_lt r block then 1 else 0)
    at j r within far =
        let place : (j * stride + r) % stride ≡ r = mod-mul-add j stride r within in
        eqb-true _ _ (all_below-true 64
        (λ i. eqb (bit_at mask i) (if nat_lt (i % stride) block then 1 else 0)) tested (j * stride + r) far)
        ∙ ap (λ m. if nat_lt m block then 1 else 0) place

    ones : (j r : ℕ) → r < block → j * stride + r < 64 → bit_at mask (j * stride + r) ≡ 1
    ones j r within far = when_below r block _ within (at j r (omega arith) far)

    zeros : (j r : ℕ) → block ≤ r → r < stride → bit_at mask (j * stride + r) ≡ 0
    zeros j r from within =
        elim (cases_lt (j * stride + r) 64) [
          | inl near ↦ when_from r block _ from (at j r within near)
          | inr far ↦ bit_at_above mask 64 _ fits far
        ]

-- ---- the steps

-- x has no bits that would stand beyond 64 bits in this spread
abbrev pub IsShort : ℕ → ℕ → ℕ → Type 0
IsShort block stride x = (j r : ℕ) → r < block → 64 ≤ j * stride + r → bit_at x (j * block + r) ≡ 0

-- j is even or odd
pub halves_of : (j : ℕ) → (q : ℕ) × ((j ≡ q + q) ⊎ (j ≡ q + q + 1))
halves_of j = (j / 2, elim (cases_lt (j % 2) 1) [ inl even ↦ inl (omega arith) | inr odd ↦ inr (omega arith) ])

module _ (block stride shift : ℕ) (room : block + block ≤ stride) (gap : shift + block ≡ stride) (x y : ℕ) where
  -- ---- a step that halves the blocks

  module _ (before : IsSpread (block + block) (stride + stride) x y) where
    -- the lower half of a block stays, and nothing is moved onto it
    stays : (q r : ℕ) → r < block → q * (stride + stride) + r < 64
        → max (bit_at y (q * (stride + stride) + r)) (bit_at (y * 2 ^ shift % 2 ^ 64) (q * (stride + stride) + r))
        ≡ bit_at x (q * (block + block) + r)
    stays q r within near =
        let kept = before.filled q r (omega arith) in
        let moved = nothing q near in
        omega (arith, bit_at-lt y (q * (stride + stride) + r))
      where
        nothing : (q : ℕ) →
            q * (stride + stride) + r < 64 → bit_at (y * 2 ^ shift % 2 ^ 64) (q * (stride + stride) + r) ≡ 0
        nothing zero near = bit_at-shl_low y shift (zero * (stride + stride) + r) (omega arith) near
        nothing (suc p) near =
            let place : suc p * (stride + stride) + r
            ≡ p * (stride + stride) + (stride + block + r) + shift = omega arith in
            ap (bit_at (y * 2 ^ shift % 2 ^ 64)) place
            ∙ bit_at-shl y shift (p * (stride + stride) + (stride + block + r)) (omega arith)
            ∙ before.empty p (stride + block + r) (omega arith) (omega arith)

    -- the upper half of a block moves into the gap above it, which was empty
    moves : (q r : ℕ) → r < block → q * (stride + stride) + (stride + r) < 64
        → max (bit_at y (q * (stride + stride) + (stride + r)))
        (bit_at (y * 2 ^ shift % 2 ^ 64) (q * (stride + stride) + (stride + r)))
        ≡ bit_at x (q * (block + block) + (block + r))
    moves q r within near =
        let none = before.empty q (stride + r) (omega arith) (omega arith) in
        let place : q * (stride + stride) + (stride + r) ≡ q * (stride + stride) + (block + r) + shift = omega arith in
        let moved : bit_at (y * 2 ^ shift % 2 ^ 64) (q * (stride + stride) + (stride + r))
        ≡ bit_at x (q * (block + block) + (block + r)) =
        ap (bit_at (y * 2 ^ shift % 2 ^ 64)) place
        ∙ bit_at-shl y shift (q * (stride + stride) + (block + r)) (omega arith)
        ∙ before.filled q (block + r) (omega arith) in
        omega (arith, bit_at-lt x (q * (block + block) + (block + r)))

    pub halved : (mask : ℕ) → IsMask block stride mask → IsShort block stride x
        → IsSpread block stride x (bit_and (bit_or y (y * 2 ^ shift % 2 ^ 64)) mask)
    halved mask ones short =
        record { filled = filled; empty = λ j r from within. under_zero _ mask _ (ones.zeros j r from within) }
      where
        near_filled : (j r : ℕ) → r < block → j * stride + r < 64 →
            bit_at (bit_and (bit_or y (y * 2 ^ shift % 2 ^ 64)) mask) (j * stride + r) ≡ bit_at x (j * block + r)
        near_filled j r within near =
            let (q, parity) = halves_of j in
            under_one y (y * 2 ^ shift % 2 ^ 64) mask (j * stride + r) (ones.ones j r within near) ∙ elim parity [
              | inl even ↦
                  let place : j * stride + r ≡ q * (stride + stride) + r = ap (λ n. n * stride + r) even
                  ∙ omega arith in
                  let from : q * (block + block) + r ≡ j * block + r = omega arith
                  ∙ ap (λ n. n * block + r) (sym even) in
                  ap (λ i. max (bit_at y i) (bit_at (y * 2 ^ shift % 2 ^ 64) i)) place
                  ∙ stays q r within (subst (λ i. i < 64) place near) ∙ ap (bit_at x) from
              | inr odd ↦
                  let place : j * stride + r ≡ q * (stride + stride) + (stride + r) = ap (λ n. n * stride + r) odd
                  ∙ omega arith in
                  let from : q * (block + block) + (block + r) ≡ j * block + r = omega arith
                  ∙ ap (λ n. n * block + r) (sym odd) in
                  ap (λ i. max (bit_at y i) (bit_at (y * 2 ^ shift % 2 ^ 64) i)) place
                  ∙ moves q r within (subst (λ i. i < 64) place near) ∙ ap (bit_at x) from
            ]

        filled : (j r : ℕ) → r < block →
            bit_at (bit_and (bit_or y (y * 2 ^ shift % 2 ^ 64)) mask) (j * stride + r) ≡ bit_at x (j * block + r)
        filled j r within = elim (cases_lt (j * stride + r) 64) [
          | inl near ↦ near_filled j r within near
          | inr far ↦ under_zero _ mask _ (bit_at_above mask 64 _ ones.fits far) ∙ sym (short j r within far)
        ]

  -- ---- a step that joins the blocks

  module _ (before : IsSpread block stride x y) where
    -- the first half of the joined block is there, and nothing comes down onto it
    first_half : (j r : ℕ) → r < block
        → max (bit_at y (j * (stride + stride) + r)) (bit_at (y / 2 ^ shift) (j * (stride + stride) + r))
        ≡ bit_at x (j * (block + block) + r)
    first_half j r within =
        let here : j * (stride + stride) + r ≡ (j + j) * stride + r = omega arith in
        let from : (j + j) * block + r ≡ j * (block + block) + r = omega arith in
        let above : shift + (j * (stride + stride) + r) ≡ (j + j) * stride + (r + shift) = omega arith in
        let kept : bit_at y (j * (stride + stride) + r) ≡ bit_at x (j * (block + block) + r) = ap (bit_at y) here
        ∙ before.filled (j + j) r within ∙ ap (bit_at x) from in
        let none : bit_at (y / 2 ^ shift) (j * (stride + stride) + r) ≡ 0 =
        bit_at-shr y shift _ ∙ ap (bit_at y) above ∙ before.empty (j + j) (r + shift) (omega arith) (omega arith) in
        omega (arith, bit_at-lt x (j * (block + block) + r))

    -- the second half comes down beside it
    second_half : (j r : ℕ) → block ≤ r → r < block + block
        → max (bit_at y (j * (stride + stride) + r)) (bit_at (y / 2 ^ shift) (j * (stride + stride) + r))
        ≡ bit_at x (j * (block + block) + r)
    second_half j r from within =
        let here : j * (stride + stride) + r ≡ (j + j) * stride + r = omega arith in
        let above : shift + (j * (stride + stride) + r) ≡ (j + j + 1) * stride + (r - block) = omega arith in
        let back : (j + j + 1) * block + (r - block) ≡ j * (block + block) + r = omega arith in
        let none : bit_at y (j * (stride + stride) + r) ≡ 0 = ap (bit_at y) here
        ∙ before.empty (j + j) r from (omega arith) in
        let moved : bit_at (y / 2 ^ shift) (j * (stride + stride) + r) ≡ bit_at x (j * (block + block) + r) =
        bit_at-shr y shift _
        ∙ ap (bit_at y) above ∙ before.filled (j + j + 1) (r - block) (omega arith) ∙ ap (bit_at x) back in
        omega (arith, bit_at-lt x (j * (block + block) + r))

    pub joined : (mask : ℕ) →
        IsMask (block + block) (stride + stride) mask → IsShort (block + block) (stride + stride) x
        → IsSpread (block + block) (stride + stride) x (bit_and (bit_or y (y / 2 ^ shift)) mask)
    joined mask ones short =
        record { filled = filled; empty = λ j r from within. under_zero _ mask _ (ones.zeros j r from within) }
      where
        both : (j r : ℕ) → r < block + block
            → max (bit_at y (j * (stride + stride) + r)) (bit_at (y / 2 ^ shift) (j * (stride + stride) + r))
            ≡ bit_at x (j * (block + block) + r)
        both j r within =
            elim (cases_lt r block) [ inl low ↦ first_half j r low | inr high ↦ second_half j r high within ]

        filled : (j r : ℕ) → r < block + block
            → bit_at (bit_and (bit_or y (y / 2 ^ shift)) mask) (j * (stride + stride) + r)
            ≡ bit_at x (j * (block + block) + r)
        filled j r within = elim (cases_lt (j * (stride + stride) + r) 64) [
          | inl near ↦ under_one y (y / 2 ^ shift) mask _ (ones.ones j r within near) ∙ both j r within
          | inr far ↦ under_zero _ mask _ (bit_at_above mask 64 _ ones.fits far) ∙ sym (short j r within far)
        ]

-- ---- the two ends, and the steps as the code takes them

-- a number of one block is spread as it stands
pub whole : (block stride x y : ℕ) → block ≤ stride → x < 2 ^ block → y ≡ x → IsSpread block stride x y
whole block stride x y room fits same =
    subst (IsSpread block stride x) (sym same) (record { filled = filled; empty = empty })
  where
    filled : (j r : ℕ) → r < block → bit_at x (j * stride + r) ≡ bit_at x (j * block + r)
    filled zero r within = ap (bit_at x) (omega arith)
    filled (suc j) r within =
        bit_at_above x block (suc j * stride + r) fits (omega arith)
        ∙ sym (bit_at_above x block (suc j * block + r) fits (omega arith))

    empty : (j r : ℕ) → block ≤ r → r < stride → bit_at x (j * stride + r) ≡ 0
    empty j r from within = bit_at_above x block (j * stride + r) fits (omega arith)

-- the number that was spread, once it is one block again
pub gathered : (block stride x y : ℕ) →
    block ≤ stride → x < 2 ^ block → y < 2 ^ block → IsSpread block stride x y → y ≡ x
gathered block stride x y room fits small spread = same_from_bits_below block y x small fits
    (λ i within. ap (bit_at y) (omega arith) ∙ spread.filled 0 i within ∙ ap (bit_at x) (omega arith))

-- a number of n bits, spread d times as far, stays within 64 bits
pub short : {block stride x : ℕ} (d n : ℕ) →
    0 < d → stride ≡ block * d → n * d ≤ 63 + d → x < 2 ^ n → IsShort block stride x
short {block} {stride} {x} d n some apart room fits j r within far =
    bit_at_above x n (j * block + r) fits (elim (cases_lt (j * block + r) n) [
      | inl less ↦
          let product : (j * block + r + 1) * d ≤ n * d = mul-le-mul_right d (omega arith) in
          let row : j * stride ≡ j * block * d = ap (λ s. j * s) apart ∙ omega arith in
          let cell : r * 1 ≤ r * d = mul-le-mul_left r (omega arith) in
          absurd (omega arith)
      | inr from ↦ from
    ])

pub halve : {block stride mask x y z : ℕ} (shift : ℕ) →
    IsMask block stride mask → block + block ≤ stride → shift + block ≡ stride
    → IsShort block stride x → IsSpread (block + block) (stride + stride) x y
    → z ≡ bit_and (bit_or y (y * 2 ^ shift % 2 ^ 64)) mask → IsSpread block stride x z
halve {block} {stride} {mask} {x} {y} shift ones room gap far before is =
    subst (IsSpread block stride x) (sym is) (halved block stride shift room gap x y before mask ones far)

pub join : {block stride mask x y z : ℕ} (shift : ℕ) →
    IsMask (block + block) (stride + stride) mask → block + block ≤ stride → shift + block ≡ stride
    → IsShort (block + block) (stride + stride) x → IsSpread block stride x y
    → z ≡ bit_and (bit_or y (y / 2 ^ shift)) mask → IsSpread (block + block) (stride + stride) x z
join {block} {stride} {mask} {x} {y} shift ones room gap far before is =
    subst (IsSpread (block + block) (stride + stride) x)
    (sym is) (joined block stride shift room gap x y before mask ones far)
