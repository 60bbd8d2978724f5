-- The hints of a least cover's lines of the keys' points lead to within ε + 2.
use Rattle.std.proofs.Common.{◌≡◌, inl, inr, ℕ, ◌+◌, ◌^◌, ◌<◌, ◌≤◌, List, length, slice_index, subst, arith}
use Rattle.std.proofs.lemmas.Bool.{cases_lt}
use Rattle.std.specs.List.Sorted.{IsNonDecreasing}
use Rattle.exact_cross.specs.Points.{IsAscending, points_of}
use Rattle.exact_cross.proofs.CallerLemmas.{IsAscending-points_of, IsNonDecreasing-from_neighbours}
use Rattle.window_search.specs.Searches.{lb, IsPredecessor}
use Rattle.window_search.specs.Brackets.{IsBracket}
use Rattle.window_search.proofs.CallerLemmas.{IsLowerBound-lb, predecessor_exists}
use Rattle.key_points.specs.KeyPoints.{xs_of, ys_of}
use Rattle.key_points.proofs.CallerLemmas.{xs-rise, xs-few, xs-first, ys-length, ys-at, ys-never_fall}
use Rattle.key_points.proofs.CallerLemmas.{ys-first, lb-more, next_of_point, close_of_point, lb-past_points}
use Rattle.hints.specs.Told.{IsTold, IsToldBy, first_xs, lines_in}
use Rattle.hints.specs.Lookups.{LeadsWithin}
use Rattle.hints.specs.Made.{AreLinesOf, AreLinesOver}
use Rattle.hints.proofs.LeadLemmas.{place_near, place_before, place_within, IsLastPoint, IsClosed}

module _ (keys : List ℕ) (eps : ℕ) (start : ℕ → ℕ) (count : ℕ) (lines : List ℕ)
    (order : IsNonDecreasing keys) (are : AreLinesOf (points_of (xs_of keys) (ys_of keys)) eps start count lines) where
  ascends : IsAscending (points_of (xs_of keys) (ys_of keys))
  ascends =
      IsAscending-points_of (xs_of keys) (ys_of keys) (ys-length keys) (xs-rise keys order) (ys-never_fall keys order)

  record IsNear (q place : ℕ) : Type 0 where
    pub not_above : place ≤ lb keys q + (eps + 2)
    pub not_below : lb keys q ≤ place + (eps + 2)

  -- no keys
  near_none : (q k place : ℕ) → length (xs_of keys) ≡ 0 → IsToldBy lines eps (length keys) q k place → IsNear q place
  near_none q k place none told =
      let p = points_of (xs_of keys) (ys_of keys) in
      let no_key : length keys ≡ 0 = elim (cases_lt 0 (length keys))
      [ inl some ↦ absurd (omega (arith, none, (xs-first keys some).0)) | inr empty ↦ omega arith ] in
      let few = place_within p eps (length keys) start count lines ascends are q k place told in
      record {
        not_above = omega (arith, few, no_key);
        not_below = omega (arith, no_key, (IsLowerBound-lb keys q order).within);
      }

  -- at a point or behind it
  near_point : (q i k place : ℕ) → q < 2 ^ 64 → IsPredecessor (xs_of keys) q i →
      IsBracket (first_xs lines) (q + 1) k → IsToldBy lines eps (length keys) q k place → IsNear q place
  near_point q i k place fits found bracket told =
      let p = points_of (xs_of keys) (ys_of keys) in
      let n = length keys in
      let inside = found.inside in
      let last : i + 1 < length (xs_of keys) → q < slice_index (xs_of keys) (i + 1) =
      λ more. found.last (i + 1) (omega arith) more in
      let next = next_of_point keys order i inside q found.at_most last (omega (arith, fits)) in
      let here : IsLastPoint p eps n start count lines ascends are q i =
      record { inside = inside; at_most = found.at_most; last = last } in
      let few : slice_index (ys_of keys) i ≤ length keys =
      omega (arith, ys-at keys i inside, (IsLowerBound-lb keys (slice_index (xs_of keys) i) order).within) in
      let closed : IsClosed p eps n start count lines ascends are q i =
      elim (close_of_point keys order i inside q found.at_most last (omega (arith, fits))) [
        | inl same ↦ inl same
        | inr step ↦ elim (cases_lt (slice_index (xs_of keys) i) q) [
          | inl past ↦ inr (step, λ end. omega (arith, lb-past_points keys order i inside q past end, next.1))
          | inr at ↦ inl (omega (arith, found.at_most))
        ]
      ] in
      let near = place_near p eps n start count lines ascends are q i k place here bracket told few closed in
      record {
        not_above = omega (arith, near.1, next.0);
        not_below = omega (arith, near.0, next.1);
      }

  -- before the first point
  near_before : (q k place : ℕ) → 0 < length (xs_of keys) → q < slice_index (xs_of keys) 0 →
      IsBracket (first_xs lines) (q + 1) k → IsToldBy lines eps (length keys) q k place → IsNear q place
  near_before q k place some before bracket told =
      let p = points_of (xs_of keys) (ys_of keys) in
      let low = place_before p eps (length keys) start count lines ascends are q k place some before bracket told in
      let key : 0 < length keys = omega (arith, some, xs-few keys order) in
      record {
        not_above = omega (arith, low);
        not_below =
            omega (
              arith,
              lb-more keys q (slice_index (xs_of keys) 0) (omega arith),
              ys-at keys 0 some,
              ys-first keys order key,
            );
      }

  near : (q k place : ℕ) →
      q < 2 ^ 64 → IsBracket (first_xs lines) (q + 1) k → IsToldBy lines eps (length keys) q k place → IsNear q place
  near q k place fits bracket told = elim (cases_lt 0 (length (xs_of keys))) [
    | inl some ↦ elim (cases_lt q (slice_index (xs_of keys) 0)) [
      | inl before ↦ near_before q k place some before bracket told
      | inr from ↦
          let found = predecessor_exists (xs_of keys) q
          (IsNonDecreasing-from_neighbours (xs_of keys) (λ k inside. omega (arith, xs-rise keys order k inside)))
          some from in
          near_point q found.0 k place fits found.1 bracket told
    ]
    | inr none ↦ near_none q k place (omega arith) told
  ]

pub LeadsWithin-keys : (keys : List ℕ) (eps : ℕ) (hints : List ℕ) → IsNonDecreasing keys →
    AreLinesOver (points_of (xs_of keys) (ys_of keys)) eps hints → LeadsWithin hints keys (eps + 2)
unfolding IsTold
LeadsWithin-keys keys eps hints order over q place fits (inl told) =
    let by = subst (λ (e : ℕ). IsToldBy (lines_in hints) e (length keys) q told.1.0 place) over.format.bound told.1.2 in
    let led = near keys eps _ _ (lines_in hints) order over.lines q told.1.0 place fits told.1.1 by in
    omega (arith, led.not_above, led.not_below)
LeadsWithin-keys keys eps hints order over q place fits (inr other) =
    absurd (other.0 (record { format = over.format.known; room = omega (arith, over.format.long) }))
