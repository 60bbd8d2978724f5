-- The least code from the lowest opening is the next code in the region:
-- between the codes of the corners, coordinate by coordinate, is inside.
use Rattle.std.proofs.Common.{◌≡◌, Option, None, Some, IfSome, IfNone, subst, ℕ, ◌+◌, ◌-◌, ◌*◌, ◌/◌, ◌%◌}
use Rattle.std.proofs.Common.{◌^◌, ◌<◌, ◌≤◌, sym, ap, ◌∙◌, inl, inr, refl, slice_index, lit<, arith}
use Rattle.std.specs.Prelude.{bit_or}
use Rattle.std.specs.Int.{bit_at}
use Rattle.std.proofs.lemmas.Bool.{cases_lt}
use Rattle.std.proofs.lemmas.Nat.{mod_below, pow_pos}
use Rattle.std.proofs.lemmas.Nat.Bits.{bit_at-lt, bit_at_above, bit_at_or}
use Rattle.zorder.specs.declared.regions.Region.{Region}
use Rattle.zorder.specs.Codes.{IsCode, code}
use Rattle.zorder.specs.Regions.{IsRegion, IsInside, IsEmpty}
use Rattle.zorder.proofs.CallerLemmas.{bit_at-shl, bit_at-shl_low, bit_at-shr, code-lt}
use Rattle.zorder.proofs.CallerLemmas.{code_fits, coordinate-code, rises, IsCode-code}
use Rattle.bigmin.specs.NextInBox.{IsNextInBox, HasNoNext}
use Rattle.bigmin.specs.NextBetween.{AreOrdered, IsNextBetween, HasNoneBetween}
use Rattle.bigmin.specs.Openings.{Opens, IsLeastFrom}
use Rattle.zorder.proofs.CallerLemmas.{dilated-le, between-from_inside, inside-from_between}
use Rattle.bigmin.proofs.PlaceLemmas.{top_below}
use Rattle.bigmin.proofs.OpeningLemmas.{IsFirst, Opens-from_code, code_above, code_between, code_least}
use Rattle.zorder.proofs.CallerLemmas.{top_difference}

pub opening_below : (d z low high b : ℕ) → Opens d z low high b → b < 64
opening_below d z low high b opens =
    omega (arith, opens.room.within, top_below d (b % d) z high opens.room.top opens.room.differs)

-- the bits of z above b, a one, and zeros, as they are computed
pub IsFirst-from_shifts : (z b : ℕ) → z < 2 ^ 64 → b < 64 → IsFirst z b (bit_or (z / 2 ^ b) 1 * 2 ^ b % 2 ^ 64)
IsFirst-from_shifts z b fits near = record {
  fits = mod_below (bit_or (z / 2 ^ b) 1 * 2 ^ b) (2 ^ 64) (pow_pos 64);
  below = λ j lower. bit_at-shl_low (bit_or (z / 2 ^ b) 1) b j lower (omega arith);
  at = at_b;
  above = above;
}
  where
    at_b : bit_at (bit_or (z / 2 ^ b) 1 * 2 ^ b % 2 ^ 64) b ≡ 1
    at_b =
        let place : b ≡ 0 + b = omega arith in
        let one : bit_at 1 0 ≡ 1 = refl in
        ap (bit_at (bit_or (z / 2 ^ b) 1 * 2 ^ b % 2 ^ 64)) place ∙ bit_at-shl (bit_or (z / 2 ^ b) 1) b 0 (omega arith)
        ∙ bit_at_or (z / 2 ^ b) 1 0 ∙ omega (arith, bit_at-lt (z / 2 ^ b) 0)

    above : (j : ℕ) → b < j → bit_at (bit_or (z / 2 ^ b) 1 * 2 ^ b % 2 ^ 64) j ≡ bit_at z j
    above j higher = elim (cases_lt j 64) [
      | inr far ↦
          bit_at_above (bit_or (z / 2 ^ b) 1 * 2 ^ b % 2 ^ 64) 64 j
          (mod_below (bit_or (z / 2 ^ b) 1 * 2 ^ b) (2 ^ 64) (pow_pos 64)) far
          ∙ sym (bit_at_above z 64 j fits far)
      | inl low ↦
          let place : j ≡ j - b + b = omega arith in
          let back : b + (j - b) ≡ j = omega arith in
          let none : bit_at 1 (j - b) ≡ 0 = bit_at_above 1 1 (j - b) (lit< tt) (omega arith) in
          ap (bit_at (bit_or (z / 2 ^ b) 1 * 2 ^ b % 2 ^ 64)) place
          ∙ bit_at-shl (bit_or (z / 2 ^ b) 1) b (j - b) (omega arith)
          ∙ bit_at_or (z / 2 ^ b) 1 (j - b)
          ∙ omega (arith, bit_at-shr z b (j - b), ap (bit_at z) back, bit_at-lt (z / 2 ^ b) (j - b))
    ]

-- ---- numbers between two others

module _ (d z low high : ℕ) (some : 0 < d) (z_fits : z < 2 ^ 64) (low_fits : low < 2 ^ 64) where
  pub next-from_least : (b first next : ℕ) →
      Opens d z low high b → ((i : ℕ) → Opens d z low high i → b ≤ i) → IsFirst z b first →
      IsLeastFrom d first low next → next < 2 ^ 64 → AreOrdered d low high → IsNextBetween d low high z next
  next-from_least b first next opens lowest is_first least fits ordered = record {
    fits = fits;
    above = code_above d z low high b first next some z_fits low_fits opens is_first least fits ordered;
    between = code_between d z low high b first next some z_fits low_fits opens is_first least fits ordered;
    least = λ w w_fits more between. code_least
        d z low high b first next some z_fits low_fits opens is_first least fits ordered w w_fits more between lowest;
  }

  -- with no opening there is no next one
  pub none-from_openings : ((i : ℕ) → Opens d z low high i → ⊥) → HasNoneBetween d low high z
  none-from_openings none w w_fits more between =
      let (i, found) = top_difference 64 z w w_fits more in
      none i (Opens-from_code d z low high some z_fits w i w_fits found between)

-- ---- codes inside a region

module _ (region : Region) (is : IsRegion region) where
  some : 0 < region.d
  some = omega (arith, is.dimension)

  low_fits : code region.d region.low < 2 ^ 64
  low_fits = code-lt region.d is.dimension region.low

  high_fits : code region.d region.high < 2 ^ 64
  high_fits = code-lt region.d is.dimension region.high

  -- a number inside is a code
  pub IsCode-inside : (w : ℕ) → w < 2 ^ 64 → IsInside region w → IsCode region.d w
  IsCode-inside w fits inside =
      let at_most = rises region.d is.dimension w (code region.d region.high) fits high_fits
      (λ c below.
      omega (arith, (inside c below).1, coordinate-code region.d is.dimension region.high is.high c below)) in
      omega (arith, IsCode-code region.d is.dimension region.high is.high)

  -- the corners of a region that isn't empty are ordered
  ordered : (IsEmpty region → ⊥) → AreOrdered region.d (code region.d region.low) (code region.d region.high)
  ordered some_inside c below =
      dilated-le region.d c (code region.d region.low) (code region.d region.high) some below low_fits high_fits
      (omega (
        arith,
        coordinate-code region.d is.dimension region.low is.low c below,
        coordinate-code region.d is.dimension region.high is.high c below,
        in_order,
      ))
    where
      in_order : slice_index region.low c ≤ slice_index region.high c
      in_order = elim (cases_lt (slice_index region.high c) (slice_index region.low c)) [
        | inl less ↦ absurd (some_inside (c, below, less))
        | inr rest ↦ rest
      ]

  next-from_between : (z next : ℕ) → (IsEmpty region → ⊥) →
      (AreOrdered region.d (code region.d region.low) (code region.d region.high) →
      IsNextBetween region.d (code region.d region.low) (code region.d region.high) z next) →
      IsNextInBox region z next
  next-from_between z next some_inside is_next =
      let found = is_next (ordered some_inside) in
      let inside = inside-from_between region is next found.fits found.between in
      record {
        code = IsCode-inside next found.fits inside;
        above = found.above;
        inside = inside;
        least = λ w small more among.
            let fits = code_fits region.d w is.dimension small in
            found.least w fits more (between-from_inside region is w fits among);
      }

  none-from_between : (z : ℕ) →
      HasNoneBetween region.d (code region.d region.low) (code region.d region.high) z → HasNoNext region z
  none-from_between z none w small more inside =
      let fits = code_fits region.d w is.dimension small in
      none w fits more (between-from_inside region is w fits inside)

-- ---- the answer, by the corners

module _ (region : Region) (is : IsRegion region) (low high : ℕ) (low_is : low ≡ code region.d region.low)
    (high_is : high ≡ code region.d region.high) (d z : ℕ) (same : d ≡ region.d) where
  next_by_codes : (next : ℕ) →
      (IsEmpty region → ⊥) → (AreOrdered d low high → IsNextBetween d low high z next) →
      IsNextInBox region z next
  next_by_codes next some_inside found =
      next-from_between region is z next some_inside
      (subst (λ (m : ℕ). AreOrdered m (code region.d region.low) (code region.d region.high) →
      IsNextBetween m (code region.d region.low) (code region.d region.high) z next) same
      (subst
      (λ (m : ℕ). AreOrdered d m (code region.d region.high) → IsNextBetween d m (code region.d region.high) z next)
      low_is
      (subst (λ (m : ℕ). AreOrdered d low m → IsNextBetween d low m z next) high_is found)))

  none_by_codes : HasNoneBetween d low high z → HasNoNext region z
  none_by_codes none =
      none-from_between region is z
      (subst (λ (m : ℕ). HasNoneBetween m (code region.d region.low) (code region.d region.high) z) same
      (subst (λ (m : ℕ). HasNoneBetween d m (code region.d region.high) z) low_is
      (subst (λ (m : ℕ). HasNoneBetween d low m z) high_is none)))

  pub next_answer : (answer : Option ℕ) → (IsEmpty region → ⊥)
      → IfSome answer (λ next. AreOrdered d low high → IsNextBetween d low high z next)
      → IfSome answer (IsNextInBox region z)
  next_answer None some_inside found = found
  next_answer (Some next) some_inside found = next_by_codes next some_inside found

  pub none_answer : (answer : Option ℕ) →
      IfNone answer (HasNoneBetween d low high z) → IfNone answer (HasNoNext region z)
  none_answer None none = none_by_codes none
  none_answer (Some next) none = none
