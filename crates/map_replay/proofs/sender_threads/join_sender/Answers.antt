-- What its thread promised is of the sender that was started.
use Rattle.std.proofs.Common.{◌≡◌, ℕ, List, sym, subst}
use Rattle.log_levels.specs.declared.update.Update.{Update}
use Rattle.senders.specs.Senders.{Origin}
use Rattle.map_replay.specs.declared.sender_states.SenderProgress.{SenderProgress}
use Rattle.map_replay.specs.declared.sender_states.StartedSender.{StartedSender}
use Rattle.map_replay.specs.SenderStates.{IsOnItsWay, IsStarted, Keeps}
use Rattle.map_replay.proofs.sender_threads.join_sender.Goals.{in-Running, in-Served}
use Rattle.map_replay.proofs.sender_threads.join_sender.Goals as goal

kept : (origin : Origin) (senders dealt_to : ℕ)
    (updates all : List Update) (number : ℕ) (before after : SenderProgress) → dealt_to ≡ senders → all ≡ updates →
    Keeps dealt_to all before after →
    IsOnItsWay origin senders updates number before → IsOnItsWay origin senders updates number after
kept origin senders dealt_to updates all number before after same alike keeps is =
    let first = subst (λ (n : ℕ). Keeps n all before after) same keeps in
    let second = subst (λ (us : List Update). Keeps senders us before after) alike first in
    second origin number is

pub returns : goal.returns
returns g c = λ origin number is.
    let senders = c.args.assignment.dealing.senders.count in
    let updates = c.args.assignment.updates.now in
    let progress = c.match-started.progress in
    let here : IsOnItsWay origin senders updates number progress = elim c.match-started.branch [
      | in-Running w ↦
          let is_one = subst (λ (s : StartedSender). IsStarted origin c.args.assignment number s) w.in-Running.is is in
          let promise = w.in-Running.handle.promise in
          subst (λ (p : SenderProgress). IsOnItsWay origin senders updates number p) (sym w.progress-is)
          (kept origin senders promise.assignment.dealing.senders.count updates promise.assignment.updates.now
          number promise.progress.value w.join-progress.result is_one.0 is_one.1 w.join-progress.ensures is_one.2)
      | in-Served w ↦
          subst (λ (p : SenderProgress). IsOnItsWay origin senders updates number p) (sym w.progress-is)
          (subst (λ (s : StartedSender). IsStarted origin c.args.assignment number s) w.in-Served.is is)
    ] in
    let sent = c.send_all-sender.ensures.keeps origin number here in
    record {
      own = sent.own;
      numbered = sent.numbered;
      whole = c.send_all-sender.ensures.whole origin number here;
    }
