use Rattle.std.proofs.Common.{ℕ, ◌<◌, ◌≤◌, slice_index}
use Rattle.hints.specs.Lookups.{IsSameOutside}
use Rattle.kuldebiq.specs.Positions.{IsPast}
use Rattle.kuldebiq.proofs.past_many.write_block.Given as goal

-- the places from `first` on and before `lane` are written, and no others
abbrev pub invariant-loop-lane : goal.invariant-loop-lane
invariant-loop-lane g l = record {
  same : IsSameOutside l.first l.lane l.fn.places l.places;
  past : (k : ℕ) → l.first ≤ k → k < l.lane →
      IsPast (g.K.KeyList.listed l.keys) (slice_index l.questions k) (slice_index l.places k);
}
