-- Each dimension has its own steps, and the region says which they are.
use Rattle.std.proofs.Common.{◌≡◌, sym, arith}
use Rattle.bigmin.proofs.JumpLemmas.{next_answer, none_answer}
use Rattle.bigmin.proofs.jump.next_by_corners.Goals as goal

pub returns-in-2-clause-next : goal.returns-in-2-clause-next
returns-in-2-clause-next c =
    let corners = c.args.corners.now in
    next_answer corners.region corners.in_range c.low-low.result c.high-high.result c.low-low.ensures
    c.high-high.ensures 2 c.args.z
    (sym c.in-2.is) c.next_between.result c.requires.some_inside c.next_between.ensures.next

pub returns-in-2-clause-none : goal.returns-in-2-clause-none
returns-in-2-clause-none c =
    let corners = c.args.corners.now in
    none_answer corners.region corners.in_range c.low-low.result c.high-high.result c.low-low.ensures
    c.high-high.ensures 2 c.args.z (sym c.in-2.is) c.next_between.result c.next_between.ensures.none

pub returns-in-3-clause-next : goal.returns-in-3-clause-next
returns-in-3-clause-next c =
    let corners = c.args.corners.now in
    next_answer corners.region corners.in_range c.low-low.result c.high-high.result c.low-low.ensures
    c.high-high.ensures 3 c.args.z
    (sym c.in-3.is) c.next_between-in-3.result c.requires.some_inside c.next_between-in-3.ensures.next

pub returns-in-3-clause-none : goal.returns-in-3-clause-none
returns-in-3-clause-none c =
    let corners = c.args.corners.now in
    none_answer corners.region corners.in_range c.low-low.result c.high-high.result c.low-low.ensures
    c.high-high.ensures 3 c.args.z (sym c.in-3.is) c.next_between-in-3.result c.next_between-in-3.ensures.none

pub returns-in_default-clause-next : goal.returns-in_default-clause-next
returns-in_default-clause-next c =
    let corners = c.args.corners.now in
    let four : 4 ≡ corners.region.d = omega (arith, corners.in_range.dimension) in
    next_answer corners.region corners.in_range c.low-low.result c.high-high.result c.low-low.ensures
    c.high-high.ensures
    4 c.args.z four c.next_between-in_default.result c.requires.some_inside c.next_between-in_default.ensures.next

pub returns-in_default-clause-none : goal.returns-in_default-clause-none
returns-in_default-clause-none c =
    let corners = c.args.corners.now in
    let four : 4 ≡ corners.region.d = omega (arith, corners.in_range.dimension) in
    none_answer corners.region corners.in_range c.low-low.result c.high-high.result c.low-low.ensures
    c.high-high.ensures 4 c.args.z four c.next_between-in_default.result c.next_between-in_default.ensures.none
