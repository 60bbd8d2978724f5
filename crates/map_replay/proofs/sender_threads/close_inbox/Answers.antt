-- Nothing is left in the queue, and all senders are done.
use Rattle.std.proofs.Common.{◌<◌, ℕ, sym, subst, arith}
use Rattle.std.specs.Prelude.{All}
use Rattle.log_levels.specs.declared.update.Update.{Update}
use Rattle.map_replay.proofs.MixLemmas.{is_mixed}
use Rattle.map_replay.proofs.sender_threads.close_inbox.Goals as goal

pub returns-then-left-eq0-clause-mix : goal.returns-then-left-eq0-clause-mix
returns-then-left-eq0-clause-mix g c =
    let taken = c.args.intake.inbox.taken in
    record {
      items = taken;
      is_mixed = is_mixed c.args.intake.inbox.origin c.args.assignment c.args.done.items taken
          (omega (arith, c.args.assignment.dealing.senders.some))
          (omega (arith, c.requires.count, c.requires.senders, c.args.done.ok.0)) c.requires.done
          (subst (λ (n : ℕ). All (λ (item : ℕ × Update). item.0 < n) taken)
          (sym c.requires.senders) c.requires.intake.known)
          (c.close-left.ensures.whole c.if-left-eq0.true);
      count = c.requires.all;
      numbers_are = c.requires.intake.numbers;
      updates_are = c.requires.intake.updates;
    }
