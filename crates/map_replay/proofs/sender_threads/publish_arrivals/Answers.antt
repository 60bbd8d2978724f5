-- The senders are those of the inbox, and what came of them is published.
use Rattle.std.proofs.Common.{List, sym, subst}
use Rattle.senders.specs.Senders.{Origin}
use Rattle.log_levels.specs.declared.update.Update.{Update}
use Rattle.map_replay.specs.SenderStates.{AreStarted}
use Rattle.map_replay.specs.Readings.{AreCut}
use Rattle.map_replay.proofs.sender_threads.publish_arrivals.Goals as goal

pub publish_arriving-published-requires-clause-started : goal.publish_arriving-published-requires-clause-started
publish_arriving-published-requires-clause-started g c κs within =
    let origin = c.in_ok-inbox.inbox.origin in
    c.start_sender_threads.ensures.started origin c.in_ok-inbox.ensures.fresh

pub close_inbox-arrivals-requires-clause-done : goal.close_inbox-arrivals-requires-clause-done
close_inbox-arrivals-requires-clause-done g c =
    let taken = c.publish_arriving-published in
    c.join_senders.ensures.done taken.new.intake.inbox.origin
    (subst (λ (o : Origin). AreStarted o c.args.assignment taken.new.started.items)
    (sym taken.ensures.origin) taken.ensures.started)

pub returns-clause-published : goal.returns-clause-published
returns-clause-published g c =
    subst (λ (mixed : List Update). AreCut c.args.plan.batch mixed c.publish_arriving-published.new.writer.history)
    (sym c.close_inbox-arrivals.ensures.same)
    c.in_ok-published.ensures.published
