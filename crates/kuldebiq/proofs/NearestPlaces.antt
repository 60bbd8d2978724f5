-- What a search for the nearest places found, as the call from C tells it: by the number of a metric, and by the
-- coordinates of the point that was given.
use Rattle.std.proofs.Common.{◌≡◌, ℕ, ◌<◌, List, length, take, slice_index, subst}
use Rattle.neighbours.specs.declared.neighbour.Neighbour.{Neighbour}
use Rattle.neighbours.specs.Metrics.{AreInOrder, far}
use Rattle.neighbours.specs.Neighbours.{AreNearestPlaces, AreSomePlaces}
use Rattle.neighbours.proofs.CallerLemmas.{some_same, nearest_same}

module _ (step named : ℕ → ℕ → ℕ) (metric : step ≡ named) (d : ℕ) (coords centre : List ℕ) (dims : d ≡ length centre)
    (same : (c : ℕ) → c < length centre → slice_index coords c ≡ slice_index centre c)
    (codes : List ℕ) (found number : ℕ) (given : found ≡ number) (new : List Neighbour) where
  pub some_told : AreSomePlaces (far step d coords) codes (take found new) →
      AreSomePlaces (far named (length centre) centre) codes (take number new)
  some_told some =
      subst (λ (n : ℕ). AreSomePlaces (far named (length centre) centre) codes (take n new)) given
      (subst (λ (by : ℕ → ℕ → ℕ). AreSomePlaces (far by (length centre) centre) codes (take found new)) metric
      (some_same step (length centre) coords centre same codes (take found new)
      (subst (λ (n : ℕ). AreSomePlaces (far step n coords) codes (take found new)) dims some)))

  pub nearest_told : (AreInOrder d codes → AreNearestPlaces (far step d coords) codes found (take found new)) →
      AreInOrder (length centre) codes →
      AreNearestPlaces (far named (length centre) centre) codes number (take number new)
  nearest_told near order =
      subst (λ (n : ℕ). AreNearestPlaces (far named (length centre) centre) codes n (take n new)) given
      (subst (λ (by : ℕ → ℕ → ℕ). AreNearestPlaces (far by (length centre) centre) codes found (take found new)) metric
      (nearest_same step (length centre) coords centre same codes found (take found new)
      (subst (λ (n : ℕ). AreInOrder n codes → AreNearestPlaces (far step n coords) codes found (take found new))
      dims near order)))
