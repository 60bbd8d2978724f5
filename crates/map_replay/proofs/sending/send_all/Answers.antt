-- It stays such a sender, and past the end it sent all.
use Rattle.map_replay.proofs.MixLemmas.{past_the_end}
use Rattle.map_replay.proofs.sending.send_all.Goals as goal

pub returns-then-assignment-progress-clause-whole : goal.returns-then-assignment-progress-clause-whole
returns-then-assignment-progress-clause-whole g c = λ origin number is.
    past_the_end origin c.args.assignment.dealing.senders.count c.args.assignment.updates.now
    number c.loop-turn.progress c.if-assignment-progress.true (c.loop-turn.invariant.keeps origin number is)

pub loop-turn-preserved-then-not-send_next : goal.loop-turn-preserved-then-not-send_next
loop-turn-preserved-then-not-send_next g c =
    record {
      keeps =
          λ origin number is. c.send_next.ensures origin number (c.loop-turn.invariant.keeps origin number is);
    }

pub loop-turn-preserved : goal.loop-turn-preserved
loop-turn-preserved g c =
    record {
      keeps =
          λ origin number is. c.send_next.ensures origin number (c.loop-turn.invariant.keeps origin number is);
    }
