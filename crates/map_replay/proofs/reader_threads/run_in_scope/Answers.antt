use Rattle.std.proofs.Common.{ℕ, ◌∙◌, subst}
use Rattle.map_replay.specs.ReaderStates.{AreFinal}
use Rattle.map_replay.proofs.reader_threads.run_in_scope.Goals as goal

pub returns : goal.returns
returns g c =
    let questions = c.args.workload.questions.now in
    let history = c.publish-published.new.writer.history in
    record {
      history = history;
      published = c.in_ok-arrivals.ensures.published;
      end = subst (λ (n : ℕ). AreFinal history questions n c.take_last_looks-finals.result)
          (c.join_readers.ensures.count ∙ c.start_readers.ensures.count)
          (c.take_last_looks-finals.ensures questions c.join_readers.ensures.asked);
    }
