use Rattle.std.proofs.Common.{ℕ, ◌-◌, ◌<◌, ◌≤◌, length, slice_index}
use Rattle.hints.specs.Lookups.{IsSameOutside}
use Rattle.kuldebiq.specs.Positions.{IsPast}
use Rattle.kuldebiq.proofs.past_many.write_past.Given as goal

-- the places before `first` are written, and nothing from there on is
abbrev pub invariant-loop-first : goal.invariant-loop-first
invariant-loop-first g l = record {
  within : l.first ≤ length l.questions;
  past : (k : ℕ) →
      k < l.first → IsPast (g.K.KeyList.listed l.keys) (slice_index l.questions k) (slice_index l.places k);
  same : IsSameOutside 0 l.first l.fn.places l.places;
}

abbrev pub decreases-loop-first : goal.decreases-loop-first
decreases-loop-first g l = length l.questions - l.first
