-- The inbox's pass stands for all senders that are not in the list any more.
use Rattle.std.proofs.Common.{◌≡◌, ◌+◌, ◌*◌, ◌^◌, ◌≤◌, [], ◌++◌, All, map, length, vec_len, sum_by}
use Rattle.std.specs.Arc.{arc_value}
use Rattle.crossbeam_queue.specs.Passes.{view, IsPassOf}
use Rattle.senders.specs.Senders.{Sending}
use Rattle.senders.specs.Views.{taking, hand_of}
use Rattle.senders.proofs.Gathered.{hand_of_sender}
use Rattle.senders.proofs.ends.Inbox.close.Given as goal

abbrev pub invariant-loop-sender : goal.invariant-loop-sender
invariant-loop-sender l = record {
  own : IsPassOf (arc_value l.line) l.right;
  known : view l.right ≡ taking l.fn.self.origin.senders l.fn.self.origin.senders
      (view l.right).hands l.fn.self.taken (view l.right).waiting;
  hands : map hand_of_sender l.senders.items ++ (view l.right).hands ≡ map hand_of_sender l.fn.senders.items;
  sent : l.sent + sum_by (λ sender. length sender.sent) l.senders.items
      ≡ sum_by (λ sender. length sender.sent) l.fn.senders.items;
  small : l.sent + 2 ^ 64 * vec_len l.senders ≤ 2 ^ 68;
  left : All (λ sender. sender.origin ≡ l.fn.self.origin) l.senders.items;
}

abbrev pub decreases-loop-sender : goal.decreases-loop-sender
decreases-loop-sender l = vec_len l.senders
