-- The x rise, and are no more than the keys.
use Rattle.std.proofs.Common.{length, sym, ap, ◌∙◌, subst, arith}
use Rattle.std.specs.List.Sorted.{IsStrictlyIncreasing}
use Rattle.key_points.proofs.PointOrder.{xs-rise, xs-few}
use Rattle.key_points.proofs.points.KeyPoints.xs.Goals as goal

pub returns-in-Some-clause-rising : goal.returns-in-Some-clause-rising
returns-in-Some-clause-rising c =
    let own = rw c.in-Some.is at c.self.invariant.1 in
    subst IsStrictlyIncreasing
    (sym (c.deref.ensures.value ∙ own)) (xs-rise c.self.inside.keys.now c.self.invariant.0.never_falls)

pub returns-in-Some-clause-few : goal.returns-in-Some-clause-few
returns-in-Some-clause-few c =
    let own = rw c.in-Some.is at c.self.invariant.1 in
    omega (
      arith,
      ap length (c.deref.ensures.value ∙ own),
      xs-few c.self.inside.keys.now c.self.invariant.0.never_falls,
      c.self.invariant.0.few,
    )

pub returns-in-None-clause-rising : goal.returns-in-None-clause-rising
returns-in-None-clause-rising c =
    let own = rw c.in-None.is at c.self.invariant.1 in
    subst IsStrictlyIncreasing own (xs-rise c.self.inside.keys.now c.self.invariant.0.never_falls)
