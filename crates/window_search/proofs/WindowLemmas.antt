-- The window holds what is looked for: the place that a line predicts is at most eps below
-- the height of the last point at or before the key, and at most eps above the next place.
-- The line never falls. At the last point at or before q it is at most eps below that point's
-- height, so it is at q. At the next point it is at most eps above that one's height.
use Rattle.std.proofs.Common.{◌≡◌, ◌⊎◌, ℕ, ◌+◌, ◌-◌, ◌<◌, ◌≤◌, List, length}
use Rattle.std.proofs.Common.{slice_index, ℤ, pos, inl, inr, ap, sym, ◌∙◌, arith}
use Rattle.std.proofs.lemmas.Int.{ints, clamps}
use Rattle.std.proofs.lemmas.Bool.{cases_lt, cases_eq}
use Rattle.std.specs.Int.{int_min, int_max}
use borrow.Author.Differences.{up, down}
use Rattle.exact_cross.specs.declared.line.Line.{Line}
use Rattle.exact_cross.specs.Points.{Points}
use Rattle.exact_cross.proofs.CallerLemmas.{floor_not_below, floor_not_above, IsFloorAt-unique}
use Rattle.window_search.specs.Windows.{IsPredicted, IsWindow, IsLineOf, IsLastAtMost, IsClose, IsNext}
use Rattle.window_search.specs.Searches.{lb, IsPredecessor}
use Rattle.window_search.proofs.LowerBounds.{lb-predecessor}

-- the predicted place is near the height of the point i
pub record IsNear (points : Points) (eps i p : ℕ) : Type 0 where
  pub not_below : points.y i ≤ p + eps
  pub not_above : p ≤ points.y i + 1 + eps

-- a number that is close to the whole number f, where f is clamped to an interval that h lies in
near_clamped : (line : Line) (low high q p h more eps : ℕ) (predicted : IsPredicted line low high q p) →
    low ≤ h → h ≤ high →
    h + down predicted.floor ≤ up predicted.floor + eps →
    (p ≤ h + more) ⊎ (up predicted.floor ≤ down predicted.floor + h + more) →
    (h ≤ p + eps) × (p ≤ h + more)
near_clamped line low high q p h more eps predicted from to below (inl top) =
    (omega (arith, ints, clamps, predicted.clamped), top)
near_clamped line low high q p h more eps predicted from to below (inr above) =
    (omega (arith, ints, clamps, predicted.clamped), omega (arith, ints, clamps, predicted.clamped))

predicted-at_most : (line : Line) (low high q p : ℕ) → IsPredicted line low high q p → low ≤ high → p ≤ high
predicted-at_most line low high q p predicted rises = omega (arith, ints, clamps, predicted.clamped)

pub predicted_near : (points : Points) (eps : ℕ) (line : Line) (low high s e q i p : ℕ) →
    IsPredicted line low high q p → IsLineOf points eps line low high s e →
    IsLastAtMost points s e q i → IsClose points e q i → IsNear points eps i p
predicted_near points eps line low high s e q i p predicted run last close =
    let near = near_clamped line low high q p (points.y i) (1 + eps) eps predicted from_low to_high below above in
    record { not_below = near.0; not_above = omega (arith, near.1) }
  where
    from_low : low ≤ points.y i
    from_low = omega
        (arith, run.lowest, run.ascending.y_never_falls s i last.from_start (omega (arith, last.to_end, run.inside)))

    to_high : points.y i ≤ high
    to_high =
        omega (
          arith,
          run.highest,
          run.ascending.y_never_falls i (e - 1) (omega (arith, last.to_end)) (omega (arith, run.some, run.inside)),
        )

    below : points.y i + down predicted.floor ≤ up predicted.floor + eps
    below = floor_not_below points eps line run.positive i q predicted.floor
        (run.fits i last.from_start last.to_end) last.at_most predicted.exact

    at_end : i + 1 ≡ e → p ≤ points.y i + (1 + eps)
    at_end end =
        let here : e - 1 ≡ i = omega arith in
        omega (
          arith,
          run.highest,
          ap points.y here,
          predicted-at_most line low high q p predicted (omega (arith, from_low, to_high)),
        )

    above : (p ≤ points.y i + (1 + eps)) ⊎ (up predicted.floor ≤ down predicted.floor + points.y i + (1 + eps))
    above = elim close [
      | inl same ↦
          inr (omega (
            arith,
            floor_not_above points eps line run.positive i q predicted.floor
                (run.fits i last.from_start last.to_end) (omega arith) predicted.exact,
          ))
      | inr (inl end) ↦ inl (at_end end)
      | inr (inr step) ↦ elim (cases_lt (i + 1) e) [
        | inl inner ↦
            let right = last.last inner in
            let from = last.from_start in
            inr (omega (
              arith,
              floor_not_above points eps line run.positive
                  (i + 1) q predicted.floor (run.fits (i + 1) (omega arith) inner) (omega arith) predicted.exact,
            ))
        | inr end ↦ let to = last.to_end in inl (at_end (omega arith))
      ]
    ]

pub window_holds : (points : Points) (line : Line) (low high eps q len from to s e i place : ℕ) →
    IsWindow line low high eps q len from to →
    IsLineOf points eps line low high s e →
    IsLastAtMost points s e q i → IsClose points e q i → IsNext points i place → place ≤ len →
    (from ≤ place) × (place ≤ to)
window_holds points line low high eps q len from to s e i place window run last close next within =
    let near = predicted_near points eps line low high s e q i window.p window.predicted run last close in
    (omega (arith, window.starts), omega (arith, window.ends))

-- ---- the two uses

-- the places of a list of keys: each point's height is its place
pub record ArePlaces (points : Points) (keys : List ℕ) : Type 0 where
  pub count : points.count ≡ length keys
  pub x : (j : ℕ) → points.x j ≡ slice_index keys j
  pub y : (j : ℕ) → points.y j ≡ j

last_of_predecessor : (points : Points) (keys : List ℕ) (s e q i : ℕ) →
    ArePlaces points keys → e ≤ points.count → s ≤ i → i < e → IsPredecessor keys q i →
    IsLastAtMost points s e q i
last_of_predecessor points keys s e q i places inside from to found = record {
  from_start = from;
  to_end = to;
  at_most = omega (arith, places.x i, found.at_most);
  last = λ inner.
      omega (arith, places.x (i + 1), places.count, found.last (i + 1) (omega arith) (omega (arith, places.count)));
}

-- above level 0 the window of the run with the predecessor holds the predecessor and the lower bound
pub both_in_window : (points : Points) (keys : List ℕ) (line : Line) (low high eps q from to s e i : ℕ) →
    ArePlaces points keys →
    IsWindow line low high eps q (length keys) from to →
    IsLineOf points eps line low high s e → s ≤ i → i < e → IsPredecessor keys q i →
    (from ≤ i) × (i ≤ to) × (from ≤ lb keys q) × (lb keys q ≤ to)
both_in_window points keys line low high eps q from to s e i places window run above below found =
    let last = last_of_predecessor points keys s e q i places run.inside above below found in
    let close : IsClose points e q i = inr (inr (omega (arith, places.y i, places.y (i + 1)))) in
    let bound = lb-predecessor keys q i
    (λ j k less inside.
    omega (arith, places.x j, places.x k, run.ascending.x_rises j k less (omega (arith, places.count)))) found in
    let holds = λ (place : ℕ) (least : i ≤ place) (most : place ≤ i + 1).
    window_holds points line low high eps q (length keys) from to s e i place window run last close
    (record { from = omega (arith, places.y i); to = omega (arith, places.y i) }) (omega (arith, found.inside)) in
    let here = holds i (omega arith) (omega arith) in
    let there = holds (lb keys q) bound.0 bound.1 in
    (here.0, here.1, there.0, there.1)

-- positions in a file: a next point is at most one higher, or its x is the next number
pub record HasNoGaps (points : Points) : Type 0 where
  pub next : (j : ℕ) → j + 1 < points.count → (points.y (j + 1) ≤ points.y j + 1) ⊎ (points.x (j + 1) ≡ points.x j + 1)

close_without_gaps : (points : Points) (s e q i : ℕ) →
    HasNoGaps points → e ≤ points.count → IsLastAtMost points s e q i → IsClose points e q i
close_without_gaps points s e q i gaps inside last =
    elim (cases_eq q (points.x i)) [
      | inl same ↦ inl same
      | inr apart ↦ elim (cases_lt (i + 1) e) [
        | inr end ↦ inr (inl (omega (arith, last.to_end)))
        | inl inner ↦ elim (gaps.next i (omega arith)) [
          | inl step ↦ inr (inr step)
          | inr beside ↦ absurd (apart (omega (arith, last.at_most, last.last inner)))
        ]
      ]
    ]

-- at level 0 the window of the run with the last point at or before q holds that point's position and the next one
pub position_in_window : (points : Points) (line : Line) (low high eps q len from to s e i place : ℕ) →
    HasNoGaps points →
    IsWindow line low high eps q len from to →
    IsLineOf points eps line low high s e → IsLastAtMost points s e q i → IsNext points i place → place ≤ len →
    (from ≤ place) × (place ≤ to)
position_in_window points line low high eps q len from to s e i place gaps window run last =
    window_holds points line low high eps q len from to s e i place window run last
    (close_without_gaps points s e q i gaps run.inside last)

-- ---- there is one window

pub IsPredicted-unique : (line : Line) (low high q p r : ℕ) →
    0 < line.run → IsPredicted line low high q p → IsPredicted line low high q r → p ≡ r
IsPredicted-unique line low high q p r positive first second =
    let same = IsFloorAt-unique line q first.floor second.floor positive first.exact second.exact in
    let clamped : pos p ≡ pos r = first.clamped
    ∙ ap (λ (f : ℤ). int_max (pos low) (int_min f (pos high))) same ∙ sym second.clamped in
    omega (arith, ints)

pub IsWindow-unique : (line : Line) (low high eps q len from to from' to' : ℕ) →
    0 < line.run → IsWindow line low high eps q len from to →
    IsWindow line low high eps q len from' to' → (from ≡ from') × (to ≡ to')
IsWindow-unique line low high eps q len from to from' to' positive first second =
    let same = IsPredicted-unique line low high q first.p second.p positive first.predicted second.predicted in
    (omega (arith, first.starts, second.starts), omega (arith, first.ends, second.ends))
