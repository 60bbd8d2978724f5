-- The y of keys that never fall don't fall either.
use Rattle.std.proofs.Common.{sym, ◌∙◌, subst}
use Rattle.std.specs.List.Sorted.{IsNonDecreasing}
use Rattle.key_points.proofs.PointOrder.{ys-never_fall}
use Rattle.key_points.proofs.points.KeyPoints.points.Goals as goal

pub new-requires-clause-never_falls : goal.new-requires-clause-never_falls
new-requires-clause-never_falls c =
    subst IsNonDecreasing (sym (c.deref.ensures.value ∙ c.self.invariant.0.heights))
    (ys-never_fall c.self.inside.keys.now c.self.invariant.0.never_falls)
