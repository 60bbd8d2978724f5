-- There are no more distinct keys than keys, and no more points.
use Rattle.std.proofs.Common.{length, ap, sym, subst, arith}
use Rattle.std.specs.List.Sorted.{IsNonDecreasing}
use Rattle.key_points.proofs.AloneLemmas.{distinct_of-few}
use Rattle.key_points.proofs.PointOrder.{xs-few}
use Rattle.key_points.proofs.keys.Keys.of.Goals as goal

pub overflow_cast-result : goal.overflow_cast-result
overflow_cast-result c =
    omega (
      arith,
      c.count_distinct-distinct.ensures,
      distinct_of-few c.deref.result.now,
      ap length c.deref.ensures.value,
      c.args.sorted.ok.0,
      c.requires.few,
    )

pub overflow_cast-result-2 : goal.overflow_cast-result-2
overflow_cast-result-2 c =
    let order = subst IsNonDecreasing (sym c.deref-2.ensures.value) c.requires.never_falls in
    omega (
      arith,
      c.count_points-points.ensures,
      xs-few c.deref-2.result.now order,
      ap length c.deref-2.ensures.value,
      c.args.sorted.ok.0,
      c.requires.few,
    )
