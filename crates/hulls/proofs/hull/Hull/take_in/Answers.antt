-- The point comes on the hull, or it and those before it are shadowed.
use Rattle.std.proofs.Common.{arith}
use Rattle.std.proofs.lemmas.Bool.{OnFalse_at}
use Rattle.hulls.proofs.HullSteps.{IsHullOf-skips}
use Rattle.hulls.proofs.hull.Hull.take_in.Goals as goal

pub returns-then-stands_out-clause-hull : goal.returns-then-stands_out-clause-hull
returns-then-stands_out-clause-hull g c =
    λ q eps s e m further is new spanned shadows. c.cover.ensures.hull q eps s e m further is new spanned

pub returns-else-stands_out-clause-hull : goal.returns-else-stands_out-clause-hull
returns-else-stands_out-clause-hull g c = λ q eps s e m further is new spanned shadows.
    IsHullOf-skips q eps s e m c.args.self.now further is (OnFalse_at c.if-stands_out.false shadows)

pub returns-then-stands_out-clause-cost : goal.returns-then-stands_out-clause-cost
returns-then-stands_out-clause-cost g c =
    omega (arith, c.cover.ensures.cost, c.cover.ensures.tangent, c.cover.ensures.inside, c.requires.next.6.inside)
