-- The rule of the claim word, over what all seats know. No public clause cites it.
use Rattle.std.specs.Prelude.{◌≡◌, if◌then◌else◌, ℕ, ◌+◌, ◌-◌, ◌^◌, ◌<◌, ◌≤◌, Bool}
use Rattle.std.specs.Prelude.{[], ◌∷◌, ◌++◌, All, length, slice_index, min, sum_by}
use Rattle.std.specs.List.Sorted.{IsStrictlyIncreasing}
use mathlib.Core.Option.{some}
use lib.ListN.{get_elem?}
use Rattle.atomic_table.specs.Table.{State, Me, Step}
use Rattle.claims.specs.declared.views.View.{View}
use Rattle.claims.specs.declared.views.Plan.{Plan}
use Rattle.claims.specs.Claims.{times, once_below}

-- a view has at most as many marks of an end as workers, and one of no worker has drawn nothing
pub record IsAllowed (bound : ℕ) (v : View) : Type 0 where
  pub marks : v.ended ≤ v.workers
  pub pieces : 0 < v.workers → v.pieces ≡ bound
  pub idle : v.workers ≡ 0 → v.drawn ≡ []

-- The word is the number of draws: of pieces in all views, and of marks. The pieces of all views are
-- those below the lesser of the word and their number, each once. Each worker stands in one view
pub record AreClaimed (plan : Plan) (s : State (Unit {0}) View) : Type 0 where
  pub small : plan.pieces + plan.workers + 1 < 2 ^ 64
  pub word : length s.words ≡ 1
  pub taken : slice_index s.words 0 ≡ sum_by (λ v. length v.drawn) s.views + sum_by (λ v. v.ended) s.views
  pub below : sum_by (λ v. length v.drawn) s.views ≡ min (slice_index s.words 0) plan.pieces
  pub once : (x : ℕ) → sum_by (λ v. times x v.drawn) s.views ≡ once_below x (min (slice_index s.words 0) plan.pieces)
  pub seated : sum_by (λ v. v.workers) s.views ≡ plan.workers
  pub each : (id : ℕ) (v : View) → get_elem? s.views id ≡ some v → IsAllowed plan.pieces v

abbrev pub Sat : Type 0
Sat = Me (Unit {0}) View

-- what a draw tells: the number found, the view after it, and that it is above all that the seat drew before
abbrev pub drew : Step (Unit {0}) → Sat → ℕ → Sat → Type 0
drew st m w m' = (m'.1 ≡ m.1)
    × (w < m.0.pieces → (m'.0 ≡ record m.0 { drawn = m.0.drawn ++ w ∷ [] })
    × ((k : ℕ) → k < length m.0.drawn → slice_index m.0.drawn k < w))
    × (m.0.pieces ≤ w → m'.0 ≡ record m.0 { ended = m.0.ended + 1 })

-- the view of all workers, before any draw
abbrev pub view_of : Plan → View
view_of plan = record { pieces = plan.pieces; drawn = []; workers = plan.workers; ended = 0 }

-- one worker's part of a view that has drawn nothing, and the rest
abbrev pub without_one : View → View
without_one v = record v { workers = v.workers - 1 }

abbrev pub one_of : View → View
one_of v = record { pieces = v.pieces; drawn = []; workers = 1; ended = 0 }

-- two views as one, and what is left of the second
abbrev pub joined : View → View → View
joined v w =
    record { pieces = v.pieces; drawn = v.drawn ++ w.drawn; workers = v.workers + w.workers; ended = v.ended + w.ended }

abbrev pub spent : View
spent = record { pieces = 0; drawn = []; workers = 0; ended = 0 }

-- a seat of one worker: the numbers that it drew rise and are below the number of pieces, and it has ended or not
pub record IsSeat (me : Sat) (ended : Bool) : Type 0 where
  pub empty : me.1 ≡ []
  pub one : me.0.workers ≡ 1
  pub mark : me.0.ended ≡ (if ended then 1 else 0)
  pub rises : IsStrictlyIncreasing me.0.drawn
  pub below : All (λ n. n < me.0.pieces) me.0.drawn
