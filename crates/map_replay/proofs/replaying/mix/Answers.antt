use Rattle.std.proofs.Common.{◌∙◌}
use Rattle.std.proofs.lemmas.List.Elements.{All-weaker}
use Rattle.std.proofs.lemmas.Result.{IfOk-weaker}
use Rattle.map_replay.specs.ReaderStates.{HasSeen}
use Rattle.map_replay.specs.Readings.{IsWholeMixedReading}
use Rattle.map_replay.proofs.BatchLemmas.{cut_shown, same_updates, whole_as_they_came}
use Rattle.map_replay.proofs.replaying.mix.Goals as goal

pub returns-clause-whole : goal.returns-clause-whole
returns-clause-whole g c = IfOk-weaker c.replay_workload.result _ _
    (λ left is. is.whole ∙ (same_updates is.history left.batches is.shown is.same ∙ is.published.0.whole))
    c.replay_workload.ensures

pub returns-clause-batches : goal.returns-clause-batches
returns-clause-batches g c =
    IfOk-weaker c.replay_workload.result _ _
    (λ left is. cut_shown c.args.plan.batch left.mixed is.history left.batches is.published.0 is.shown is.same)
    c.replay_workload.ensures

pub returns-clause-mixed : goal.returns-clause-mixed
returns-clause-mixed g c =
    IfOk-weaker c.replay_workload.result _ _ (λ left is. is.published.1) c.replay_workload.ensures

pub returns-clause-count : goal.returns-clause-count
returns-clause-count g c = IfOk-weaker c.replay_workload.result _ _ (λ left is. is.count) c.replay_workload.ensures

pub returns-clause-each : goal.returns-clause-each
returns-clause-each g c =
    let questions = c.args.questions.now in
    IfOk-weaker c.replay_workload.result _ _
    (λ left is. All-weaker (HasSeen is.history questions) (IsWholeMixedReading left.batches _ questions)
    (λ reading has. whole_as_they_came _ is.history is.published.0.whole questions left.batches is.shown reading has)
    _ is.each)
    c.replay_workload.ensures
