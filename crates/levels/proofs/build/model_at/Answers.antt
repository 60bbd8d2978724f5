-- The run's line has a model at the run's first x.
use Rattle.std.proofs.Common.{arith}
use Rattle.exact_cross.specs.PointLists.{points_in}
use Rattle.exact_cross.proofs.CallerLemmas.{IsAscending-points_in}
use Rattle.levels.proofs.LookupLemmas.{no_segment}
use Rattle.levels.proofs.ModelRuns.{model_run, IsEndOf-start, IsModelOf-read}
use Rattle.levels.proofs.build.model_at.Goals as goal

pub bounds-points-segment : goal.bounds-points-segment
bounds-points-segment c =
    let points = c.args.points in
    let run = model_run (points_in points) c.args.eps c.args.segments.now c.args.run no_segment c.start_at-end.result
    (IsAscending-points_in points) (λ j inside. points.low j)
    c.requires.bounded c.requires.segments c.requires.inside (IsEndOf-start _ _ _ _ c.start_at-end.ensures) in
    omega (arith, run.some, run.within)

pub overflow_sub-high : goal.overflow_sub-high
overflow_sub-high c =
    let points = c.args.points in
    let run = model_run (points_in points) c.args.eps c.args.segments.now c.args.run no_segment c.start_at-end.result
    (IsAscending-points_in points) (λ j inside. points.low j)
    c.requires.bounded c.requires.segments c.requires.inside (IsEndOf-start _ _ _ _ c.start_at-end.ensures) in
    omega (arith, run.some)

pub offset_bounds-points-end : goal.offset_bounds-points-end
offset_bounds-points-end c =
    let points = c.args.points in
    let run = model_run (points_in points) c.args.eps c.args.segments.now c.args.run no_segment c.start_at-end.result
    (IsAscending-points_in points) (λ j inside. points.low j)
    c.requires.bounded c.requires.segments c.requires.inside (IsEndOf-start _ _ _ _ c.start_at-end.ensures) in
    omega (arith, run.some, run.within, c.args.points.same_length)

pub bounds-points-end : goal.bounds-points-end
bounds-points-end c =
    let points = c.args.points in
    let run = model_run (points_in points) c.args.eps c.args.segments.now c.args.run no_segment c.start_at-end.result
    (IsAscending-points_in points) (λ j inside. points.low j)
    c.requires.bounded c.requires.segments c.requires.inside (IsEndOf-start _ _ _ _ c.start_at-end.ensures) in
    omega (arith, run.some, run.within, c.args.points.same_length)

pub of-requires-clause-in_range : goal.of-requires-clause-in_range
of-requires-clause-in_range c =
    let points = c.args.points in
    let run = model_run (points_in points) c.args.eps c.args.segments.now c.args.run no_segment c.start_at-end.result
    (IsAscending-points_in points) (λ j inside. points.low j)
    c.requires.bounded c.requires.segments c.requires.inside (IsEndOf-start _ _ _ _ c.start_at-end.ensures) in
    run.in_range

pub of-requires-clause-left : goal.of-requires-clause-left
of-requires-clause-left c =
    let points = c.args.points in
    let run = model_run (points_in points) c.args.eps c.args.segments.now c.args.run no_segment c.start_at-end.result
    (IsAscending-points_in points) (λ j inside. points.low j)
    c.requires.bounded c.requires.segments c.requires.inside (IsEndOf-start _ _ _ _ c.start_at-end.ensures) in
    run.left

pub of-requires-clause-not_below : goal.of-requires-clause-not_below
of-requires-clause-not_below c =
    let points = c.args.points in
    let run = model_run (points_in points) c.args.eps c.args.segments.now c.args.run no_segment c.start_at-end.result
    (IsAscending-points_in points) (λ j inside. points.low j)
    c.requires.bounded c.requires.segments c.requires.inside (IsEndOf-start _ _ _ _ c.start_at-end.ensures) in
    run.not_below

pub returns : goal.returns
returns c = λ e d ends.
    IsModelOf-read c.args.points.xs.now c.args.points.ys.now
    c.args.segments.now c.args.eps c.args.run c.start_at-end.result e d no_segment c.of.result c.requires.inside
    (IsEndOf-start _ _ _ _ c.start_at-end.ensures) ends
    c.of.ensures
