-- The corners of a region that isn't empty are in order, coordinate by coordinate.
use Rattle.std.proofs.Common.{◌≡◌, ℕ, ◌+◌, ◌-◌, ◌%◌, ◌^◌, ◌<◌, ◌≤◌, ◌↔◌, slice_index, inl, inr, arith}
use Rattle.std.proofs.lemmas.Bool.{cases_lt}
use Rattle.zorder.specs.declared.regions.Region.{Region}
use Rattle.zorder.specs.Codes.{code}
use Rattle.zorder.specs.Regions.{IsEmpty, IsRegion}
use Rattle.zorder.proofs.CallerLemmas.{code-lt, corners-from_inside, low_inside}
use Rattle.bigmin.specs.NextBetween.{AreOrdered}

pub ordered_corners : (region : Region) →
    IsRegion region → (low high : ℕ) → low ≡ code region.d region.low → high ≡ code region.d region.high →
    (IsEmpty region → ⊥) → (d : ℕ) → d ≡ region.d → AreOrdered d low high
ordered_corners region is low high low_is high_is some_inside d same c below =
    let inside =
    low_inside region is (λ k within. elim (cases_lt (slice_index region.high k) (slice_index region.low k)) [
      | inl falls ↦ absurd (some_inside (k, within, falls))
      | inr rest ↦ rest
    ]) in
    let between = corners-from_inside region is low high low_is high_is d
    (code region.d region.low) same (code-lt region.d is.dimension region.low) inside in
    omega (arith, between.not_below c below, between.not_above c below)

-- the distance from the lower end, in 64 bits, is within the width just where the number is between the ends
pub distance_within : (low high n : ℕ) → low ≤ high → high < 2 ^ 64 → n < 2 ^ 64
    → ((n + (2 ^ 64 - low)) % 2 ^ 64 ≤ (high + (2 ^ 64 - low)) % 2 ^ 64) ↔ ((low ≤ n) × (n ≤ high))
distance_within low high n ordered high_fits n_fits = (
  λ near. elim (cases_lt n low) [
    | inl below ↦ absurd (omega arith)
    | inr from ↦ (from, omega arith)
  ],
  λ (from, to). omega arith,
)
