-- Between the corners' codes is inside.
use Rattle.std.proofs.Common.{◌≡◌, sym, arith}
use Rattle.zorder.proofs.RegionLemmas.{corners-from_inside, inside-from_corners}
use Rattle.zorder.proofs.corner_codes.Corners.inside.Goals as goal

pub returns-in-2 : goal.returns-in-2
returns-in-2 c =
    let corners = c.args.self.now in
    let same = sym c.in-2.is in record {
      exact = (
        λ passes. inside-from_corners corners.region corners.in_range corners.low corners.high corners.low_is
            corners.high_is 2 c.args.z same c.ranges.z.fits (c.is_between.ensures.exact.0 passes),
        λ among. c.is_between.ensures.exact.1
            (corners-from_inside corners.region corners.in_range corners.low corners.high corners.low_is
            corners.high_is 2 c.args.z same c.ranges.z.fits among),
      );
    }

pub returns-in-3 : goal.returns-in-3
returns-in-3 c =
    let corners = c.args.self.now in
    let same = sym c.in-3.is in record {
      exact = (
        λ passes. inside-from_corners corners.region corners.in_range corners.low corners.high corners.low_is
            corners.high_is 3 c.args.z same c.ranges.z.fits (c.is_between-in-3.ensures.exact.0 passes),
        λ among. c.is_between-in-3.ensures.exact.1
            (corners-from_inside corners.region corners.in_range corners.low corners.high corners.low_is
            corners.high_is 3 c.args.z same c.ranges.z.fits among),
      );
    }

pub returns-in_default : goal.returns-in_default
returns-in_default c =
    let corners = c.args.self.now in
    let same : 4 ≡ corners.region.d = omega (arith, corners.in_range.dimension) in record {
      exact = (
        λ passes. inside-from_corners corners.region corners.in_range corners.low corners.high corners.low_is
            corners.high_is 4 c.args.z same c.ranges.z.fits (c.is_between-in_default.ensures.exact.0 passes),
        λ among. c.is_between-in_default.ensures.exact.1
            (corners-from_inside corners.region corners.in_range corners.low corners.high corners.low_is
            corners.high_is 4 c.args.z same c.ranges.z.fits among),
      );
    }
