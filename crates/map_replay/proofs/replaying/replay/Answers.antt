use Rattle.std.proofs.Common.{◌∙◌}
use Rattle.std.proofs.lemmas.List.Elements.{All-weaker}
use Rattle.std.proofs.lemmas.Result.{IfOk-weaker}
use Rattle.map_replay.specs.ReaderStates.{HasSeen}
use Rattle.map_replay.specs.Readings.{IsWholeReading}
use Rattle.map_replay.proofs.BatchLemmas.{same_updates, whole_in_batches}
use Rattle.map_replay.proofs.replaying.replay.Goals as goal

pub returns-clause-whole : goal.returns-clause-whole
returns-clause-whole g c = IfOk-weaker c.replay_workload.result _ _
    (λ left is. is.whole ∙ (same_updates is.history left.batches is.shown is.same ∙ is.published.0))
    c.replay_workload.ensures

pub returns-clause-count : goal.returns-clause-count
returns-clause-count g c = IfOk-weaker c.replay_workload.result _ _ (λ left is. is.count) c.replay_workload.ensures

pub returns-clause-each : goal.returns-clause-each
returns-clause-each g c =
    let updates = c.args.updates.now in
    let questions = c.args.questions.now in
    let size = c.args.plan.batch in
    IfOk-weaker c.replay_workload.result _ _
    (λ left is. All-weaker (HasSeen is.history questions) (IsWholeReading updates size questions)
    (λ reading has. whole_in_batches updates is.history is.published.0 questions size is.published.1 reading has)
    _ is.each)
    c.replay_workload.ensures
