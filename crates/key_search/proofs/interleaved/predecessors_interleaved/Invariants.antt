-- The predecessor of each question is one of the places left.
use Rattle.std.proofs.Common.{◌≤◌}
use Rattle.key_search.specs.Interleaved.{AreAmong}
use Rattle.key_search.proofs.interleaved.predecessors_interleaved.Given as goal

abbrev pub invariant-loop-count : goal.invariant-loop-count
invariant-loop-count l = record { some : 1 ≤ l.count; among : AreAmong l.list l.qs l.bases l.count }

abbrev pub decreases-loop-count : goal.decreases-loop-count
decreases-loop-count l = l.count
