-- Between the corners' codes is inside, in each dimension.
use Rattle.std.proofs.Common.{◌≡◌, slice_index, sym, arith}
use Rattle.zorder.proofs.CallerLemmas.{corners-from_inside, inside-from_corners}
use Rattle.boxes.proofs.OrderedCorners.{ordered_corners}
use Rattle.boxes.proofs.walk.stretch_end.Goals as goal

pub between_until-requires-clause-ordered : goal.between_until-requires-clause-ordered
between_until-requires-clause-ordered c =
    let corners = c.args.corners.now in ordered_corners
    corners.region corners.in_range c.low-low.result
    c.high-high.result c.low-low.ensures c.high-high.ensures c.requires.some_inside 2 (sym c.in-2.is)

pub between_until-requires-in-3-clause-ordered : goal.between_until-requires-in-3-clause-ordered
between_until-requires-in-3-clause-ordered c =
    let corners = c.args.corners.now in ordered_corners
    corners.region corners.in_range c.low-low.result
    c.high-high.result c.low-low.ensures c.high-high.ensures c.requires.some_inside 3 (sym c.in-3.is)

pub between_until-requires-in_default-clause-ordered : goal.between_until-requires-in_default-clause-ordered
between_until-requires-in_default-clause-ordered c =
    let corners = c.args.corners.now in let four : 4 ≡ corners.region.d = omega (arith, corners.in_range.dimension) in
    ordered_corners
    corners.region corners.in_range
    c.low-low.result c.high-high.result c.low-low.ensures c.high-high.ensures c.requires.some_inside 4 four

pub returns-in-2-clause-inside : goal.returns-in-2-clause-inside
returns-in-2-clause-inside c =
    let corners = c.args.corners.now in λ sorted j from to. inside-from_corners
    corners.region corners.in_range c.low-low.result c.high-high.result c.low-low.ensures c.high-high.ensures 2
    (slice_index c.args.codes.now j) (sym c.in-2.is)
    (c.type_inv.codes j).fits (c.between_until.ensures.between sorted j from to)

pub returns-in-2-clause-outside : goal.returns-in-2-clause-outside
returns-in-2-clause-outside c =
    let corners = c.args.corners.now in λ within among. c.between_until.ensures.not within
    (corners-from_inside
    corners.region corners.in_range c.low-low.result c.high-high.result c.low-low.ensures c.high-high.ensures 2
    (slice_index c.args.codes.now c.between_until.result) (sym c.in-2.is)
    (c.type_inv.codes c.between_until.result).fits among)

pub returns-in-3-clause-inside : goal.returns-in-3-clause-inside
returns-in-3-clause-inside c =
    let corners = c.args.corners.now in λ sorted j from to. inside-from_corners
    corners.region corners.in_range c.low-low.result c.high-high.result c.low-low.ensures c.high-high.ensures 3
    (slice_index c.args.codes.now j) (sym c.in-3.is)
    (c.type_inv.codes j).fits (c.between_until-in-3.ensures.between sorted j from to)

pub returns-in-3-clause-outside : goal.returns-in-3-clause-outside
returns-in-3-clause-outside c =
    let corners = c.args.corners.now in λ within among. c.between_until-in-3.ensures.not within
    (corners-from_inside
    corners.region corners.in_range c.low-low.result c.high-high.result c.low-low.ensures c.high-high.ensures 3
    (slice_index c.args.codes.now c.between_until-in-3.result) (sym c.in-3.is)
    (c.type_inv.codes c.between_until-in-3.result).fits among)

pub returns-in_default-clause-inside : goal.returns-in_default-clause-inside
returns-in_default-clause-inside c =
    let corners = c.args.corners.now in let four : 4 ≡ corners.region.d = omega (arith, corners.in_range.dimension) in
    λ sorted j from to. inside-from_corners
    corners.region corners.in_range c.low-low.result c.high-high.result c.low-low.ensures c.high-high.ensures 4
    (slice_index c.args.codes.now j) four
    (c.type_inv.codes j).fits (c.between_until-in_default.ensures.between sorted j from to)

pub returns-in_default-clause-outside : goal.returns-in_default-clause-outside
returns-in_default-clause-outside c =
    let corners = c.args.corners.now in let four : 4 ≡ corners.region.d = omega (arith, corners.in_range.dimension) in
    λ within among. c.between_until-in_default.ensures.not within
    (corners-from_inside
    corners.region corners.in_range c.low-low.result c.high-high.result c.low-low.ensures c.high-high.ensures 4
    (slice_index c.args.codes.now c.between_until-in_default.result) four
    (c.type_inv.codes c.between_until-in_default.result).fits among)
