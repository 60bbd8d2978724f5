-- What was sent is the update at the sender's place.
use Rattle.std.proofs.Common.{◌≡◌, ◌<◌, ◌+◌, ◌++◌, ◌∷◌, [], ap, ◌∙◌, length, get_or, false, arith}
use Rattle.std.proofs.lemmas.Grind.{common_steps}
use Rattle.senders.specs.Senders.{Sending}
use Rattle.map_replay.proofs.MixLemmas.{sent_on_its_way}
use Rattle.map_replay.proofs.sending.send_next.Goals as goal

pub returns : goal.returns
returns g c = λ origin number here.
    let updates = c.args.assignment.updates.now in
    let progress = c.args.progress.now in
    let update = c.in-Some.update.now in
    let within : progress.place < length updates = grind (arith, common_steps) in
    let is : update ≡ get_or updates progress.place update = grind (arith, common_steps) in
    let same : c.pass_gate.new.progress.sender ≡ progress.sender = c.pass_gate.ensures.sender in
    let sent : c.send.new.self.sent ≡ c.pass_gate.new.progress.sender.sent
    ++ update ∷ [] = grind (arith, common_steps) in
    sent_on_its_way origin c.args.assignment.dealing.senders.count updates number progress
    (record {
      sender = c.send.new.self;
      place = c.pass_gate.new.progress.place + c.args.assignment.dealing.senders.count;
      begun = false;
    }) update
    (omega (arith, c.args.assignment.dealing.senders.some)) within is
    (sent ∙ ap (λ (s : Sending). s.sent ++ update ∷ []) same)
    (c.send.ensures.number ∙ ap (λ (s : Sending). s.number) same)
    (c.send.ensures.own ∙ ap (λ (s : Sending). s.origin) same)
    (omega (arith, c.pass_gate.ensures.place)) here
