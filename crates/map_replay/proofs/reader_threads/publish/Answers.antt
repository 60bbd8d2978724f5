-- Updates of senders have an entry each.
use Rattle.std.proofs.Common.{subst, arith}
use Rattle.map_replay.specs.declared.workload.Source.{Source}
use Rattle.map_replay.specs.ReaderStates.{AreForSource}
use Rattle.map_replay.proofs.MixLemmas.{plain_entries}
use Rattle.map_replay.proofs.reader_threads.publish.Goals as goal

pub publish_arrivals-requires-clause-ready : goal.publish_arrivals-requires-clause-ready
publish_arrivals-requires-clause-ready g c κs within =
    let updates = c.args.workload.updates.now in
    let ready = c.requires.ready.empty in
    record {
      own = ready.own;
      empty = ready.empty;
      none_staged = ready.none_staged;
      fits = omega (
        arith,
        ready.fits,
        plain_entries updates
            (subst (λ (s : Source). AreForSource s updates) c.in-Assigned.is c.requires.ready.plain),
      );
    }
