-- The sender at this place stays the one that it is, and the others are as they were.
use Rattle.std.proofs.Common.{◌≡◌, ◌<◌, ◌+◌, ◌-◌, subst, length, slice_index_or, arith}
use Rattle.std.proofs.lemmas.Grind.{common_steps}
use Rattle.map_replay.specs.declared.sender_states.StartedSender.{StartedSender}
use Rattle.map_replay.specs.SenderStates.{IsStarted, IsStartedAt}
use Rattle.map_replay.proofs.PlaceLemmas.{at_set}
use Rattle.map_replay.proofs.intake.serve_all.Goals as goal

pub loop-place-preserved : goal.loop-place-preserved
loop-place-preserved g c =
    let senders = c.args.assignment.dealing.senders.count in
    let updates = c.args.assignment.updates.now in
    let inv = c.loop-place.invariant in
    let place = c.loop-place.place in
    let items = c.loop-place.started.items in
    let one = c.index_mut.result.now in
    let within : place < length items = grind (arith, common_steps) in
    let there : slice_index_or items place one ≡ one = grind (arith, common_steps) in
    record {
      started = λ origin are.
          at_set (IsStartedAt origin c.args.assignment) items place c.serve.new.sender (inv.started origin are)
          (c.serve.ensures origin (senders - (place + 1))
          (subst (λ (s : StartedSender). IsStarted origin c.args.assignment (senders - (place + 1)) s) there
          (inv.started origin are place one within)));
      count = inv.count;
    }
