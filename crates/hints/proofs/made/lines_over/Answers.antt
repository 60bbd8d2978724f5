-- The longest run from `start` is one more line.
use Rattle.std.proofs.Common.{◌≡◌, ◌<◌, ◌≤◌, ◌^◌, ℕ, length, arith}
use Rattle.exact_cross.specs.Points.{Points, IsAscending}
use Rattle.exact_cross.specs.PointLists.{points_in}
use Rattle.exact_cross.specs.Lines.{SomeLineFits}
use Rattle.exact_cross.specs.Covers.{IsLongest}
use Rattle.exact_cross.specs.Segments.{IsSteepSegment}
use Rattle.exact_cross.specs.declared.segment.Segment.{Segment}
use Rattle.exact_cross.proofs.CallerLemmas.{IsAscending-points_in, IsFitted-from_steep, IsInRange-from_steep}
use Rattle.hulls.specs.declared.flat.FlatLine.{FlatLine}
use Rattle.hulls.specs.FlatLines.{IsFlatLine, MeanRises}
use Rattle.hints.specs.Made.{AreLinesOfRun}
use Rattle.hints.proofs.RunLemmas.{AreLinesBefore-more}
use Rattle.hints.proofs.made.lines_over.Goals as goal

AreLinesOfRun-longest : (p : Points) (eps to s e : ℕ) (segment : Segment) (flat : FlatLine) → IsAscending p →
    e ≤ p.count → ((j : ℕ) → j < p.count → p.y j < 2 ^ 32) → eps ≤ 1048576 →
    segment.start ≡ s → s < e → IsLongest p eps to s e → IsSteepSegment p eps segment e → IsFlatLine p eps s e flat →
    MeanRises segment.line flat → AreLinesOfRun p eps s e segment.line flat
AreLinesOfRun-longest p eps to s e segment flat ascends inside fits_y bounded starts further longest steep level rises =
    let some : segment.start < e = omega (arith, starts, further) in
    let fits : SomeLineFits p eps segment.start e = rw starts longest.fits in
    let fitted = IsFitted-from_steep p eps e segment ascends some inside steep fits in
    let ranged = IsInRange-from_steep p eps e segment ascends fits_y bounded some inside steep in
    record {
      in_range = ranged;
      fits = λ j from to. record { near = (fitted.fits j (omega (arith, starts, from)) to).near };
      flat_in_range = level.in_range;
      flat_fits = level.fits;
      rises = rises;
    }

pub hints_of_run-line-requires-clause-lines : goal.hints_of_run-line-requires-clause-lines
hints_of_run-line-requires-clause-lines g c =
    let so_far = c.loop-start.invariant in
    let run = rw so_far.bound at c.longest_run-run.ensures in
    AreLinesOfRun-longest (points_in c.args.points) c.args.eps
    (length c.args.points.xs.now) c.loop-start.start c.longest_run-run.result.end
    c.longest_run-run.result.segment c.longest_run-run.result.flat
    (IsAscending-points_in c.args.points) run.within
    (λ j inside. c.args.points.low j) c.requires.bounded run.start run.further run.longest run.steep run.flat
    run.middle

pub loop-start-preserved : goal.loop-start-preserved
loop-start-preserved g c =
    let so_far = c.loop-start.invariant in
    let run = rw so_far.bound at c.longest_run-run.ensures in
    let line = c.hints_of_run-line.result in
    record {
      within = run.within;
      lines = AreLinesBefore-more (points_in c.args.points) c.args.eps c.loop-start.start
          c.longest_run-run.result.end c.loop-start.lines.items _ line.first line.multiplier line.packed
          c.in_ok-push_line.ensures run.further run.longest c.hints_of_run-line.ensures so_far.lines;
      room = omega (arith, so_far.room, run.room);
      bound = run.bound;
    }
