use Rattle.std.proofs.Common.{Some, arith}
use Rattle.std.proofs.lemmas.List.Elements.{All-pop, All-push}
use Rattle.map_replay.specs.ReaderStates.{HasAsked, IsStartedOn}
use Rattle.map_replay.proofs.reader_threads.join_readers.Goals as goal

pub loop-reader-preserved : goal.loop-reader-preserved
loop-reader-preserved g c =
    let questions = c.args.questions.now in
    let inv = c.loop-reader.invariant in
    let left = All-pop (IsStartedOn questions) c.loop-reader.started.items c.pop.new.self.items
    (Some c.in-Some.reader) c.in-Some.ensures.items inv.running in
    rw c.push_reserved.ensures.items (record {
      count = omega (arith, inv.count, c.in-Some.ensures.cases, c.push_reserved.ensures.len);
      kept = omega (arith, inv.kept, c.push_reserved.ensures.capacity);
      running = left.0;
      asked = All-push (HasAsked questions) c.loop-reader.finished.items c.join_reader.result inv.asked
          (c.join_reader.ensures questions left.1);
    })
