-- The lowest opening is where the next code begins to differ, and without one there is none.
use Rattle.std.proofs.Common.{arith}
use Rattle.bigmin.proofs.JumpLemmas.{opening_below, IsFirst-from_shifts, next-from_least, none-from_openings}
use Rattle.bigmin.proofs.jump.next_between.Goals as goal

pub overflow_shr-z : goal.overflow_shr-z
overflow_shr-z c = opening_below _ _ _ _ _ c.in-Some.ensures.0

pub overflow_shl-z : goal.overflow_shl-z
overflow_shl-z c = opening_below _ _ _ _ _ c.in-Some.ensures.0

pub returns-in-None-clause-none : goal.returns-in-None-clause-none
returns-in-None-clause-none c =
    none-from_openings c.args.d c.args.z c.args.low c.args.high
    (omega (arith, c.requires)) c.ranges.z.fits c.ranges.low.fits c.in-None.ensures

pub returns-in-Some-clause-next : goal.returns-in-Some-clause-next
returns-in-Some-clause-next c =
    next-from_least c.args.d c.args.z c.args.low c.args.high
    (omega (arith, c.requires)) c.ranges.z.fits c.ranges.low.fits c.in-Some.place _ c.least_from.result
    c.in-Some.ensures.0 c.in-Some.ensures.1
    (IsFirst-from_shifts c.args.z c.in-Some.place c.ranges.z.fits (opening_below _ _ _ _ _ c.in-Some.ensures.0))
    c.least_from.ensures c.least_from.type_inv
