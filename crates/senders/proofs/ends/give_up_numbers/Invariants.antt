-- So many numbers are left, and no sender is made.
use Rattle.std.proofs.Common.{◌≡◌, ◌+◌, []}
use Rattle.crossbeam_queue.specs.Passes.{view, IsPassOf, IsSamePass}
use Rattle.senders.specs.Views.{taking}
use Rattle.senders.proofs.ends.give_up_numbers.Given as goal
use Rattle.options.specs.declared.map.TheConstants.{MAX_SENDERS}

abbrev pub invariant-loop-number : goal.invariant-loop-number
invariant-loop-number l = record {
  own : IsPassOf l.line l.right;
  same : IsSamePass l.fn.right l.right;
  left : (view l.right).senders + l._number ≡ MAX_SENDERS + l.count;
  first : view l.right ≡ taking (view l.right).senders 0 [] [] [];
}
