-- There are no more levels than keys.
use Rattle.std.proofs.Common.{◌≡◌, length, arith}
use Rattle.levels.specs.Stored.{segments_of}
use Rattle.levels.proofs.StoredLemmas.{levels_few, segments_of-count}
use Rattle.levels.proofs.HeightLemmas.{levels_low, levels_low_over_runs}
use Rattle.levels.proofs.index.Index.level_count.Goals as goal

pub overflow_cast-result : goal.overflow_cast-result
overflow_cast-result c =
    omega (
      arith,
      levels_few c.self.inside.keys c.self.inside.bounds.eps c.self.inside.bounds.eps_rec
          c.self.inside.stored.items c.self.invariant.stored,
      c.self.invariant.stored.first.few,
      c.len.ensures,
    )

pub returns-clause-few_over_runs : goal.returns-clause-few_over_runs
returns-clause-few_over_runs c =
    let own = c.self.inside in
    let levels = own.stored.items in
    let count : c.len.result
    ≡ length (segments_of levels) = omega (arith, c.len.ensures, segments_of-count levels, own.stored.ok.0) in
    rw (← c.self.view_is, count)
    (levels_low_over_runs own.keys own.bounds.eps own.bounds.eps_rec
    (segments_of levels) c.self.invariant.stored.first.never_falls c.self.invariant.stored.index)

pub returns-clause-few : goal.returns-clause-few
returns-clause-few c =
    let own = c.self.inside in
    let levels = own.stored.items in
    let count : c.len.result
    ≡ length (segments_of levels) = omega (arith, c.len.ensures, segments_of-count levels, own.stored.ok.0) in
    rw (← c.self.view_is, count)
    (levels_low own.keys own.bounds.eps own.bounds.eps_rec
    (segments_of levels) c.self.invariant.stored.first.never_falls c.self.invariant.stored.index)
