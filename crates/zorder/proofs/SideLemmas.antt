-- Two bytes whose bits change sides, three times over, until one has the even bits of both and the other the odd ones.
use Rattle.std.proofs.Common.{◌≡◌, ℕ, zero, suc, ◌+◌, ◌-◌, ◌*◌, ◌/◌, ◌%◌, ◌^◌, ◌<◌, true, ◌⊎◌, List, [], ◌∷◌}
use Rattle.std.proofs.Common.{get_or, min, refl, sym, ap, ◌∙◌, subst, inl, inr, arith, add-zero, eqb, eqb-true}
use Rattle.std.specs.Prelude.{bit_xor, nat_lt, if◌then◌else◌}
use Rattle.std.specs.Int.{bit_at}
use Rattle.std.proofs.lemmas.Nat.{pow_pos, pow-add, mod-mul-add}
use Rattle.std.proofs.lemmas.Nat.Bits.{bit_at_and, bit_at_xor, bit_at-lt, bit_at_above, bit_at_cat_low, bit_at_cat_high}
use Rattle.std.proofs.Math.Nat.{pow-suc}
use lib.Lanes.{Each1, number_l}
use Rattle.zorder.specs.Columns.{crossing, lower_side, upper_side}
use Rattle.zorder.proofs.BitLemmas.{all_below, all_below-true, bit_at-mod, bit_at-shr}
use Rattle.zorder.proofs.SpreadLemmas.{halves_of, when_below, when_from}

-- ---- one change of sides

module _ (shift mask a b : ℕ) where
  crossing_bit : (i : ℕ) →
      bit_at (crossing shift mask a b) i ≡ min ((bit_at a (shift + i) + bit_at b i) % 2) (bit_at mask i)
  crossing_bit i =
      bit_at_and (bit_xor (a / 2 ^ shift) b) mask i
      ∙ ap (λ n. min n (bit_at mask i))
      (bit_at_xor (a / 2 ^ shift) b i ∙ ap (λ n. (n + bit_at b i) % 2) (bit_at-shr a shift i))

  upper_bit : (i : ℕ) → bit_at (upper_side shift mask a b) i ≡ (bit_at b i + bit_at (crossing shift mask a b) i) % 2
  upper_bit i = bit_at_xor b (crossing shift mask a b) i

  pub upper_under_one : (i : ℕ) → bit_at mask i ≡ 1 → bit_at (upper_side shift mask a b) i ≡ bit_at a (shift + i)
  upper_under_one i one = omega (arith, upper_bit i, crossing_bit i, bit_at-lt a (shift + i), bit_at-lt b i)

  pub upper_under_zero : (i : ℕ) → bit_at mask i ≡ 0 → bit_at (upper_side shift mask a b) i ≡ bit_at b i
  upper_under_zero i none = omega (arith, upper_bit i, crossing_bit i, bit_at-lt b i)

  lower_bit : (i : ℕ) →
      bit_at (lower_side shift mask a b) i ≡ (bit_at a i + bit_at (crossing shift mask a b * 2 ^ shift % 2 ^ 8) i) % 2
  lower_bit i = bit_at_xor a (crossing shift mask a b * 2 ^ shift % 2 ^ 8) i

  moved_low : (i : ℕ) → i < shift → i < 8 → bit_at (crossing shift mask a b * 2 ^ shift % 2 ^ 8) i ≡ 0
  moved_low i below within =
      let t = crossing shift mask a b in
      bit_at-mod (t * 2 ^ shift) 8 i within
      ∙ ap (λ x. bit_at x i) (sym (add-zero (t * 2 ^ shift))) ∙ bit_at_cat_low t shift 0 i below
      ∙ bit_at_above 0 0 i (pow_pos 0) (omega arith)

  moved_high : (i : ℕ) → i + shift < 8 →
      bit_at (crossing shift mask a b * 2 ^ shift % 2 ^ 8) (i + shift) ≡ bit_at (crossing shift mask a b) i
  moved_high i within =
      let t = crossing shift mask a b in
      let back : i + shift - shift ≡ i = omega arith in
      bit_at-mod (t * 2 ^ shift) 8 (i + shift) within ∙ ap (λ x. bit_at x (i + shift)) (sym (add-zero (t * 2 ^ shift)))
      ∙ bit_at_cat_high t shift 0 (i + shift) (pow_pos shift) (omega arith) ∙ ap (bit_at t) back

  pub lower_below : (i : ℕ) → i < shift → i < 8 → bit_at (lower_side shift mask a b) i ≡ bit_at a i
  lower_below i below within = omega (arith, lower_bit i, moved_low i below within, bit_at-lt a i)

  pub lower_over_zero : (i : ℕ) →
      i + shift < 8 → bit_at mask i ≡ 0 → bit_at (lower_side shift mask a b) (i + shift) ≡ bit_at a (i + shift)
  lower_over_zero i within none =
      omega (arith, lower_bit (i + shift), moved_high i within, crossing_bit i, bit_at-lt a (i + shift))

  pub lower_over_one : (i : ℕ) →
      i + shift < 8 → bit_at mask i ≡ 1 → bit_at (lower_side shift mask a b) (i + shift) ≡ bit_at b i
  lower_over_one i within one =
      let same : bit_at a (shift + i) ≡ bit_at a (i + shift) = ap (bit_at a) (omega arith) in
      omega (
        arith,
        lower_bit (i + shift),
        moved_high i within,
        crossing_bit i,
        same,
        bit_at-lt a (i + shift),
        bit_at-lt b i,
      )

-- ---- what each side has

-- of each 2 * k bits of the piece, a has the lower k and b the upper k
pub record AreSides (k : ℕ) (piece : ℕ → ℕ) (a b : ℕ) : Type 0 where
  pub lower : (j r : ℕ) → r < k → j * k + r < 8 → bit_at a (j * k + r) ≡ piece (j * (k + k) + r)
  pub upper : (j r : ℕ) → r < k → j * k + r < 8 → bit_at b (j * k + r) ≡ piece (j * (k + k) + (k + r))

-- the mask has the ones of each second k bits, from the lowest on
pub record IsSideMask (k mask : ℕ) : Type 0 where
  pub whole : (q r : ℕ) → r < k → q * (k + k) + r < 8 → q * (k + k) + (k + r) < 8
  pub ones : (q r : ℕ) → r < k → q * (k + k) + r < 8 → bit_at mask (q * (k + k) + r) ≡ 1
  pub zeros : (q r : ℕ) → r < k → q * (k + k) + (k + r) < 8 → bit_at mask (q * (k + k) + (k + r)) ≡ 0

pub side_mask : (k mask : ℕ) → ((q r : ℕ) → r < k → q * (k + k) + r < 8 → q * (k + k) + (k + r) < 8)
    → all_below 8 (λ i. eqb (bit_at mask i) (if nat_lt (i % (k + k)) k then 1 else 0)) ≡ true → IsSideMask k mask
side_mask k mask whole tested = record { whole = whole; ones = ones; zeros = zeros }
  where
    at : (q r : ℕ) → r < k + k → q * (k + k) + r < 8 → bit_at mask (q * (k + k) + r) ≡ (if nat_lt r k then 1 else 0)
    at q r within near =
        eqb-true _ _ (all_below-true 8
        (λ i. eqb (bit_at mask i) (if nat_lt (i % (k + k)) k then 1 else 0)) tested (q * (k + k) + r) near)
        ∙ ap (λ m. if nat_lt m k then 1 else 0) (mod-mul-add q (k + k) r within)

    ones : (q r : ℕ) → r < k → q * (k + k) + r < 8 → bit_at mask (q * (k + k) + r) ≡ 1
    ones q r within near = when_below r k _ within (at q r (omega arith) near)

    zeros : (q r : ℕ) → r < k → q * (k + k) + (k + r) < 8 → bit_at mask (q * (k + k) + (k + r)) ≡ 0
    zeros q r within near = when_from (k + r) k _ (omega arith) (at q (k + r) (omega arith) near)

module _ (k mask a b : ℕ) (piece : ℕ → ℕ) (is_mask : IsSideMask k mask) (before : AreSides (k + k) piece a b) where
  lower_even : (q r : ℕ) →
      r < k → q * (k + k) + r < 8 → bit_at (lower_side k mask a b) (q * (k + k) + r) ≡ piece (q * (k + k + (k + k)) + r)
  lower_even q r within near = kept q near ∙ before.lower q r (omega arith) near
    where
      kept : (q : ℕ) →
          q * (k + k) + r < 8 → bit_at (lower_side k mask a b) (q * (k + k) + r) ≡ bit_at a (q * (k + k) + r)
      kept zero near = lower_below k mask a b (zero * (k + k) + r) (omega arith) near
      kept (suc p) near =
          let place : suc p * (k + k) + r ≡ p * (k + k) + (k + r) + k = omega arith in
          subst (λ i. bit_at (lower_side k mask a b) i ≡ bit_at a i) (sym place)
          (lower_over_zero k mask a b (p * (k + k) + (k + r)) (omega arith) (is_mask.zeros p r within (omega arith)))

  lower_odd : (q r : ℕ) → r < k → q * (k + k) + (k + r) < 8 →
      bit_at (lower_side k mask a b) (q * (k + k) + (k + r)) ≡ piece (q * (k + k + (k + k)) + (k + k + r))
  lower_odd q r within near =
      let place : q * (k + k) + (k + r) ≡ q * (k + k) + r + k = omega arith in
      ap (bit_at (lower_side k mask a b)) place
      ∙ lower_over_one k mask a b (q * (k + k) + r) (omega arith) (is_mask.ones q r within (omega arith))
      ∙ before.upper q r (omega arith) (omega arith)

  upper_even : (q r : ℕ) → r < k →
      q * (k + k) + r < 8 → bit_at (upper_side k mask a b) (q * (k + k) + r) ≡ piece (q * (k + k + (k + k)) + (k + r))
  upper_even q r within near =
      upper_under_one k mask a b (q * (k + k) + r) (is_mask.ones q r within near) ∙ ap (bit_at a) (omega arith)
      ∙ before.lower q (k + r) (omega arith) (is_mask.whole q r within near)

  upper_odd : (q r : ℕ) → r < k → q * (k + k) + (k + r) < 8 →
      bit_at (upper_side k mask a b) (q * (k + k) + (k + r)) ≡ piece (q * (k + k + (k + k)) + (k + k + (k + r)))
  upper_odd q r within near =
      upper_under_zero k mask a b (q * (k + k) + (k + r)) (is_mask.zeros q r within near)
      ∙ before.upper q (k + r) (omega arith) near

  pub sides_changed : AreSides k piece (lower_side k mask a b) (upper_side k mask a b)
  sides_changed =
      record {
        lower = λ j r within near. lower j r within near (halves_of j);
        upper = λ j r within near. upper j r within near (halves_of j);
      }
    where
      lower : (j r : ℕ) → r < k → j * k + r < 8 → ((q : ℕ) × ((j ≡ q + q) ⊎ (j ≡ q + q + 1))) →
          bit_at (lower_side k mask a b) (j * k + r) ≡ piece (j * (k + k) + r)
      lower j r within near (q, inl even) =
          let place : j * k + r ≡ q * (k + k) + r = ap (λ n. n * k + r) even ∙ omega arith in
          let from : q * (k + k + (k + k)) + r ≡ j * (k + k) + r = omega arith ∙ ap (λ n. n * (k + k) + r) (sym even) in
          ap (bit_at (lower_side k mask a b)) place
          ∙ lower_even q r within (subst (λ i. i < 8) place near) ∙ ap piece from
      lower j r within near (q, inr odd) =
          let place : j * k + r ≡ q * (k + k) + (k + r) = ap (λ n. n * k + r) odd ∙ omega arith in
          let from : q * (k + k + (k + k)) + (k + k + r) ≡ j * (k + k) + r = omega arith
          ∙ ap (λ n. n * (k + k) + r) (sym odd) in
          ap (bit_at (lower_side k mask a b)) place
          ∙ lower_odd q r within (subst (λ i. i < 8) place near) ∙ ap piece from

      upper : (j r : ℕ) → r < k → j * k + r < 8 → ((q : ℕ) × ((j ≡ q + q) ⊎ (j ≡ q + q + 1))) →
          bit_at (upper_side k mask a b) (j * k + r) ≡ piece (j * (k + k) + (k + r))
      upper j r within near (q, inl even) =
          let place : j * k + r ≡ q * (k + k) + r = ap (λ n. n * k + r) even ∙ omega arith in
          let from : q * (k + k + (k + k)) + (k + r) ≡ j * (k + k) + (k + r) = omega arith
          ∙ ap (λ n. n * (k + k) + (k + r)) (sym even) in
          ap (bit_at (upper_side k mask a b)) place
          ∙ upper_even q r within (subst (λ i. i < 8) place near) ∙ ap piece from
      upper j r within near (q, inr odd) =
          let place : j * k + r ≡ q * (k + k) + (k + r) = ap (λ n. n * k + r) odd ∙ omega arith in
          let from : q * (k + k + (k + k)) + (k + k + (k + r)) ≡ j * (k + k) + (k + r) = omega arith
          ∙ ap (λ n. n * (k + k) + (k + r)) (sym odd) in
          ap (bit_at (upper_side k mask a b)) place
          ∙ upper_odd q r within (subst (λ i. i < 8) place near) ∙ ap piece from

-- ---- bytes

pow-256 : (n : ℕ) → 256 ^ n ≡ 2 ^ (n * 8)
pow-256 zero = refl
pow-256 (suc n) =
    let place : suc n * 8 ≡ n * 8 + 8 = omega arith in
    pow-suc 256 n ∙ ap (λ m. m * 256) (pow-256 n) ∙ sym (ap (λ e. 2 ^ e) place ∙ pow-add 2 (n * 8) 8)

pub bit_at-byte : (z n r : ℕ) → r < 8 → bit_at (z / 256 ^ n % 256) r ≡ bit_at z (n * 8 + r)
bit_at-byte z n r within =
    bit_at-mod (z / 256 ^ n) 8 r within ∙ ap (λ m. bit_at (z / m) r) (pow-256 n) ∙ bit_at-shr z (n * 8) r

-- the bits of a number of bytes are theirs
pub bit_at-number_l : (bytes : List ℕ) → Each1 (λ x. x < 256) bytes →
    (m q : ℕ) → q < 8 → bit_at (number_l 256 bytes) (m * 8 + q) ≡ bit_at (get_or bytes m 0) q
bit_at-number_l [] fits m q within =
    bit_at_above 0 0 (m * 8 + q) (pow_pos 0) (omega arith) ∙ sym (bit_at_above 0 0 q (pow_pos 0) (omega arith))
bit_at-number_l (x ∷ xs) fits zero q within =
    ap (λ n. bit_at n (zero * 8 + q)) (omega arith)
    ∙ bit_at_cat_low (number_l 256 xs) 8 x (zero * 8 + q) (omega arith) ∙ ap (bit_at x) (omega arith)
bit_at-number_l (x ∷ xs) fits (suc m) q within =
    let back : suc m * 8 + q - 8 ≡ m * 8 + q = omega arith in
    ap (λ n. bit_at n (suc m * 8 + q)) (omega arith)
    ∙ bit_at_cat_high (number_l 256 xs) 8 x (suc m * 8 + q) fits.0 (omega arith)
    ∙ ap (bit_at (number_l 256 xs)) back
    ∙ bit_at-number_l xs fits.1 m q within
