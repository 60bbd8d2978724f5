-- so many batches are published: the first updates, in full batches, of which only the last of all may be shorter
use Rattle.std.proofs.Common.{◌≡◌, ◌≤◌, ◌*◌, length, take, []}
use Rattle.published.specs.Histories.{updates_of}
use Rattle.published.specs.Writers.{IsSameMap}
use Rattle.batches.specs.Batches.{AreBatches, AreFull}
use Rattle.batches.proofs.publishing.publish_all.Given as goal

abbrev pub invariant-loop-number : goal.invariant-loop-number
invariant-loop-number g l = record {
  same_map : IsSameMap l.initial.writer l.writer;
  none_staged : l.writer.batch ≡ [];
  first : updates_of l.writer.history ≡ take (l.number * l.size) l.updates;
  batches : AreBatches l.size l.writer.history;
  full : l.number * l.size ≤ length l.updates → AreFull l.size l.writer.history;
}
