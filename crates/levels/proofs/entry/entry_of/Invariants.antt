-- A lookup may start at this level, and the levels above it have their share of steps.
use Rattle.std.proofs.Common.{◌+◌, ◌-◌, ◌*◌, ◌^◌, ◌≤◌, length}
use Rattle.levels.specs.Entries.{IsEntry}
use Rattle.levels.specs.Stored.{segments_of}
use Rattle.levels.proofs.entry.entry_of.Given as goal

abbrev pub invariant-loop-top : goal.invariant-loop-top
invariant-loop-top l = record {
  from : l.top ≤ length l.levels - 1;
  entry : IsEntry l._keys l.eps_rec (segments_of l.levels) l.top;
  share : l.most ≤ (4 * (2 * l.eps_rec + 3)) ^ (length l.levels - 1 - l.top);
}

abbrev pub decreases-loop-top : goal.decreases-loop-top
decreases-loop-top l = l.top
