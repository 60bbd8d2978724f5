-- The x rise with their places, and each side's test is its inequality.
use Rattle.std.proofs.Common.{ℕ, ◌<◌, ◌≤◌, List, length, slice_index, arith}
use Rattle.std.specs.List.Sorted.{IsStrictlyIncreasing}
use Rattle.exact_cross.specs.Points.{points_of}
use Rattle.exact_cross.proofs.CallerLemmas.{slice_index-rises}
use Rattle.cut_witness.proofs.Sides.{IsOver-decided, IsUnder-decided}
use Rattle.cut_witness.proofs.is_beyond.Goals as goal

-- a higher place's x is not less
not_less : (xs : List ℕ) (i j : ℕ) →
    IsStrictlyIncreasing xs → i < j → j < length xs → slice_index xs i ≤ slice_index xs j
not_less xs i j rises lower inside = omega (arith, slice_index-rises xs i j rises lower inside)

pub overflow_sub-points : goal.overflow_sub-points
overflow_sub-points c = not_less c.args.points.xs.now _ _ c.args.points.rising c.requires.first (omega arith)

pub overflow_sub-points-2 : goal.overflow_sub-points-2
overflow_sub-points-2 c = not_less c.args.points.xs.now _ _ c.args.points.rising c.requires.second c.requires.last

pub overflow_sub-points-3 : goal.overflow_sub-points-3
overflow_sub-points-3 c = not_less c.args.points.xs.now _ _ c.args.points.rising (omega arith) c.requires.last

pub returns-in-Over : goal.returns-in-Over
returns-in-Over c =
    let xs = c.args.points.xs.now in
    let w = c.args.w.now in
    let left = not_less xs w.p w.q c.args.points.rising c.requires.first (omega arith) in
    let right = not_less xs w.q w.r c.args.points.rising c.requires.second c.requires.last in
    record {
      exact =
          rw (
            c.in-Over.is,
            c.from-left.ensures,
            c.from-right.ensures,
            c.from-width.ensures,
            c.from.ensures,
            c.from-2.ensures,
            c.from-3.ensures,
            c.from-4.ensures,
          )
          (IsOver-decided (points_of xs c.args.points.ys.now) c.args.eps w.p w.q w.r left right);
    }

pub returns-in-Under : goal.returns-in-Under
returns-in-Under c =
    let xs = c.args.points.xs.now in
    let w = c.args.w.now in
    let left = not_less xs w.p w.q c.args.points.rising c.requires.first (omega arith) in
    let right = not_less xs w.q w.r c.args.points.rising c.requires.second c.requires.last in
    record {
      exact =
          rw (
            c.in-Under.is,
            c.from-left.ensures,
            c.from-right.ensures,
            c.from-width.ensures,
            c.from.ensures,
            c.from-2.ensures,
            c.from-3.ensures,
            c.from-4.ensures,
          )
          (IsUnder-decided (points_of xs c.args.points.ys.now) c.args.eps w.p w.q w.r left right);
    }
