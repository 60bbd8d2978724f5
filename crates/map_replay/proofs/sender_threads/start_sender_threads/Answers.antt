-- The last sender that isn't started yet is the next one that is started.
use Rattle.std.proofs.Common.{◌≡◌, ◌<◌, ℕ, ap, refl, subst, length, false, arith}
use Rattle.std.proofs.lemmas.Option.{get_or_from_slice_get}
use Rattle.senders.specs.Senders.{Sending, fresh_sender}
use Rattle.map_replay.specs.declared.sender_states.SenderProgress.{SenderProgress}
use Rattle.map_replay.specs.SenderStates.{IsStarted, IsStartedAt}
use Rattle.map_replay.proofs.MixLemmas.{first_on_its_way}
use Rattle.map_replay.proofs.PlaceLemmas.{at_last, at_nil, at_push}
use Rattle.map_replay.proofs.sender_threads.start_sender_threads.Goals as goal

pub loop-sender-init : goal.loop-sender-init
loop-sender-init g c =
    let senders = c.args.assignment.dealing.senders.count in
    let updates = c.args.assignment.updates.now in
    record {
      count = omega (arith, c.requires.count, c.args.started.now.ok.0, ap (λ l. length l) c.requires.none);
      room = c.requires.room;
      fresh = λ origin are place other below.
          get_or_from_slice_get c.args.senders.items place
          (fresh_sender origin place) other (are.each place (omega (arith, below, are.all)));
      started = λ origin are. at_nil (IsStartedAt origin c.args.assignment) c.args.started.now.items c.requires.none;
    }

pub loop-sender-preserved : goal.loop-sender-preserved
loop-sender-preserved g c =
    let senders = c.args.assignment.dealing.senders.count in
    let updates = c.args.assignment.updates.now in
    let inv = c.loop-sender.invariant in
    let sender = c.in-Some.sender in
    let before = c.pop.new.self.items in
    let number = length before in
    let one = c.start_sender.result in
    let progress : SenderProgress = record { sender = sender; place = c.len.result; begun = false } in
    rw c.push_reserved.ensures.items (record {
      count = omega (arith, inv.count, c.in-Some.ensures.cases, c.push_reserved.ensures.len);
      room = omega (arith, inv.room, c.push_reserved.ensures.capacity);
      fresh = λ origin are.
          (at_last (λ (place : ℕ) (s : Sending). s ≡ fresh_sender origin place)
          c.loop-sender.senders.items before sender c.in-Some.ensures.items (inv.fresh origin are)).0;
      started = λ origin are.
          let is = (at_last (λ (place : ℕ) (s : Sending). s ≡ fresh_sender origin place)
          c.loop-sender.senders.items before sender c.in-Some.ensures.items (inv.fresh origin are)).1 in
          let place : ℕ = c.len.result in
          let place_is : number ≡ place = omega (arith, c.pop.new.self.ok.0) in
          let below :
          place < senders = omega (arith, inv.count, c.in-Some.ensures.cases, c.pop.new.self.ok.0, place_is) in
          let fresh = subst (λ (n : ℕ). sender ≡ fresh_sender origin n) place_is is in
          at_push (IsStartedAt origin c.args.assignment) c.loop-sender.started.items one (inv.started origin are)
          (subst (λ (n : ℕ). IsStarted origin c.args.assignment n one)
          (omega (arith, inv.count, c.in-Some.ensures.cases, c.loop-sender.started.ok.0, c.pop.new.self.ok.0))
          (c.start_sender.ensures origin (first_on_its_way origin senders updates place progress below fresh refl)));
    })
