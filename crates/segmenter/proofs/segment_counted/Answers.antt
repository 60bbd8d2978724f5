-- The longest run from `start` is one more run, and a run of all places is the only one.
use Rattle.std.proofs.Common.{arith, ◌≡◌, [], ◌∷◌}
use Rattle.exact_cross.specs.PointLists.{points_in}
use Rattle.exact_cross.proofs.CallerLemmas.{IsAscending-points_in}
use Rattle.segmenter.proofs.LeastLemmas.{AreSegments-push, AreSegments-whole, IsLeastSegmentation-whole}
use Rattle.segmenter.proofs.segment_counted.Goals as goal

pub returns-in-Some-clause-least : goal.returns-in-Some-clause-least
returns-in-Some-clause-least g c =
    let p = points_in c.args.points in
    rw (c.in_ok-push.ensures.items, c.new-segments.ensures.items)
    (IsLeastSegmentation-whole p c.args.eps c.args.from c.args.to (c.in-Some.segment ∷ [])
    (AreSegments-whole p c.args.eps c.args.from c.args.to c.in-Some.segment
    (IsAscending-points_in c.args.points) c.requires.within
    (λ j inside. c.args.points.low j) c.requires.bounded c.in-Some.ensures.whole))

pub loop-start-preserved : goal.loop-start-preserved
loop-start-preserved g c =
    let so_far = c.loop-start.invariant in
    let run = rw so_far.bound at c.longest_run-run.ensures in
    record {
      within = run.within;
      from_first = omega (arith, so_far.from_first, run.further);
      segments = rw c.in_ok-push-2.ensures.items
          (AreSegments-push
          (points_in c.args.points) c.args.eps c.args.from c.args.to c.loop-start.start c.longest_run-run.result.end
          c.loop-start.segments.items c.longest_run-run.result.segment
          (IsAscending-points_in c.args.points) c.requires.within
          (λ j inside. c.args.points.low j)
          c.requires.bounded run.start run.further run.within run.longest run.steep run.cut so_far.segments);
      cost = omega (arith, so_far.cost, run.cost);
      room = omega (arith, so_far.room, run.room);
      bound = run.bound;
    }

pub returns-clause-least : goal.returns-clause-least
returns-clause-least g c =
    let at_end : c.loop-start.start ≡ c.args.to = omega arith in
    IsLeastSegmentation-whole (points_in c.args.points) c.args.eps c.args.from c.args.to c.loop-start.segments.items
    (rw at_end at c.loop-start.invariant.segments)
