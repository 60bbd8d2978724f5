-- The senders so far are fresh, in the order of their numbers.
use Rattle.std.proofs.Common.{◌≡◌, ◌≤◌, [], All, vec_capacity}
use Rattle.std.specs.Arc.{arc_value}
use Rattle.crossbeam_queue.specs.Passes.{view, IsPassOf, IsSamePass}
use Rattle.senders.specs.Senders.{AreFresh}
use Rattle.senders.specs.Views.{taking, origin_of}
use Rattle.senders.proofs.ends.make_senders.Given as goal

abbrev pub invariant-loop-number : goal.invariant-loop-number
invariant-loop-number l = record {
  own : IsPassOf (arc_value l.line) l.right;
  same : IsSamePass l.fn.right l.right;
  made : view l.right ≡ taking l.count l.number [] [] [];
  room : l.count ≤ vec_capacity l.senders;
  fresh : AreFresh (origin_of (arc_value l.line) l.count) l.number l.senders.items;
  origins : All (λ sender. sender.origin ≡ origin_of (arc_value l.line) l.count) l.senders.items;
}
