-- The last sender that was started is the next one that is done.
use Rattle.std.proofs.Common.{◌+◌, ◌-◌, ℕ, ap, subst, length, arith}
use Rattle.map_replay.specs.SenderStates.{IsDone, IsStartedAt}
use Rattle.map_replay.proofs.PlaceLemmas.{at_last, at_nil, at_push}
use Rattle.map_replay.proofs.sender_threads.join_senders.Goals as goal

pub loop-one-init : goal.loop-one-init
loop-one-init g c =
    let senders = c.args.assignment.dealing.senders.count in
    let updates = c.args.assignment.updates.now in
    record {
      count = omega (arith, c.requires.count, c.args.done.now.ok.0, ap (λ l. length l) c.requires.none);
      room = c.requires.room;
      started = λ origin are. are;
      done = λ origin are. at_nil (IsDone origin c.args.assignment) c.args.done.now.items c.requires.none;
    }

pub loop-one-preserved : goal.loop-one-preserved
loop-one-preserved g c =
    let senders = c.args.assignment.dealing.senders.count in
    let updates = c.args.assignment.updates.now in
    let inv = c.loop-one.invariant in
    let one = c.in-Some.one in
    let before = c.pop.new.self.items in
    let sender = c.join_sender.result in
    rw c.push_reserved.ensures.items (record {
      count = omega (arith, inv.count, c.in-Some.ensures.cases, c.push_reserved.ensures.len);
      room = omega (arith, inv.room, c.push_reserved.ensures.capacity);
      started = λ origin are.
          (at_last (IsStartedAt origin c.args.assignment) c.loop-one.started.items before one c.in-Some.ensures.items
          (inv.started origin are)).0;
      done = λ origin are.
          let last = (at_last (IsStartedAt origin c.args.assignment)
          c.loop-one.started.items before one c.in-Some.ensures.items (inv.started origin are)).1 in
          at_push (IsDone origin c.args.assignment) c.loop-one.done.items sender (inv.done origin are)
          (subst (λ (n : ℕ). IsDone origin c.args.assignment n sender)
          (omega (arith, inv.count, c.in-Some.ensures.cases, c.loop-one.done.ok.0, c.pop.new.self.ok.0))
          (c.join_sender.ensures origin (senders - (length before + 1)) last));
    })
