-- Regions and the codes of their corners. For the crates above too.
use Rattle.std.proofs.Common.{◌≡◌, ℕ, ◌^◌, ◌<◌, ◌≤◌, slice_index, sym, subst, arith}
use Rattle.zorder.specs.declared.regions.Region.{Region}
use Rattle.zorder.specs.Codes.{IsCode, code}
use Rattle.zorder.specs.Dilated.{IsBetween}
use Rattle.zorder.specs.Regions.{IsRegion, IsInside}
use Rattle.zorder.proofs.CodeLemmas.{coordinate-code, code-lt, code_fits, rises}
use Rattle.zorder.proofs.DilatedLemmas.{dilated-le, coordinate-le}

-- a code inside lies between the codes of the two corners
pub inside_between : (region : Region) (z : ℕ) → IsRegion region → IsCode region.d z → IsInside region z
    → (code region.d region.low ≤ z) × (z ≤ code region.d region.high)
inside_between region z is small among =
    let fits = code_fits region.d z is.dimension small in (
      rises region.d is.dimension (code region.d region.low) z (code-lt region.d is.dimension region.low) fits
          (λ c within.
          omega (arith, coordinate-code region.d is.dimension region.low is.low c within, (among c within).0)),
      rises region.d is.dimension z (code region.d region.high) fits (code-lt region.d is.dimension region.high)
          (λ c within.
          omega (arith, coordinate-code region.d is.dimension region.high is.high c within, (among c within).1)),
    )

-- the code of the low corner is inside, unless the region is empty
pub low_inside : (region : Region) →
    IsRegion region → ((c : ℕ) → c < region.d → slice_index region.low c ≤ slice_index region.high c)
    → IsInside region (code region.d region.low)
low_inside region is ordered c within =
    let same = coordinate-code region.d is.dimension region.low is.low c within in
    (omega arith, omega (arith, ordered c within))

module _ (region : Region) (is : IsRegion region) where
  some : 0 < region.d
  some = omega (arith, is.dimension)

  low_fits : code region.d region.low < 2 ^ 64
  low_fits = code-lt region.d is.dimension region.low

  high_fits : code region.d region.high < 2 ^ 64
  high_fits = code-lt region.d is.dimension region.high

  -- inside the region is between the codes of its corners
  pub between-from_inside : (w : ℕ) →
      w < 2 ^ 64 → IsInside region w → IsBetween region.d (code region.d region.low) (code region.d region.high) w
  between-from_inside w fits inside = record {
    not_below = λ c below. dilated-le region.d c (code region.d region.low) w some below low_fits fits
        (omega (arith, (inside c below).0, coordinate-code region.d is.dimension region.low is.low c below));
    not_above = λ c below. dilated-le region.d c w (code region.d region.high) some below fits high_fits
        (omega (arith, (inside c below).1, coordinate-code region.d is.dimension region.high is.high c below));
  }

  pub inside-from_between : (w : ℕ) →
      w < 2 ^ 64 → IsBetween region.d (code region.d region.low) (code region.d region.high) w → IsInside region w
  inside-from_between w fits between c below = (
    omega (
      arith,
      coordinate-le region.d c (code region.d region.low) w some below low_fits fits (between.not_below c below),
      coordinate-code region.d is.dimension region.low is.low c below,
    ),
    omega (
      arith,
      coordinate-le region.d c w (code region.d region.high) some below fits high_fits (between.not_above c below),
      coordinate-code region.d is.dimension region.high is.high c below,
    ),
  )

-- ---- a code and the codes of the corners

module _ (region : Region) (is : IsRegion region) (low high : ℕ)
    (low_is : low ≡ code region.d region.low) (high_is : high ≡ code region.d region.high) where
  pub inside-from_corners : (d z : ℕ) →
      d ≡ region.d → z < 2 ^ 64 → IsBetween d low high z → IsInside region z
  inside-from_corners d z same fits between =
      inside-from_between region is z fits
      (subst (λ (n : ℕ). IsBetween n (code region.d region.low) (code region.d region.high) z) same
      (subst (λ (n : ℕ). IsBetween d n (code region.d region.high) z) low_is
      (subst (λ (n : ℕ). IsBetween d low n z) high_is between)))

  pub corners-from_inside : (d z : ℕ) →
      d ≡ region.d → z < 2 ^ 64 → IsInside region z → IsBetween d low high z
  corners-from_inside d z same fits inside =
      subst (λ (n : ℕ). IsBetween n low high z) (sym same)
      (subst (λ (n : ℕ). IsBetween region.d n high z) (sym low_is)
      (subst (λ (n : ℕ). IsBetween region.d (code region.d region.low) n z)
      (sym high_is) (between-from_inside region is z fits inside)))
