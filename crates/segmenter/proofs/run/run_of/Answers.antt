-- The hulls' pair and lines are the run's.
use Rattle.std.proofs.Common.{refl}
use Rattle.exact_cross.specs.declared.segment.Segment.{Segment}
use Rattle.segmenter.proofs.Runs.{MeanRises-of_run}
use Rattle.segmenter.proofs.run.run_of.Goals as goal

pub returns-clause-steep : goal.returns-clause-steep
returns-clause-steep c = λ p eps stands. record {
  pair = c.line-a.ensures.pair p eps c.args.start c.args.end stands;
  line = c.line-a.ensures.line p eps c.args.start c.args.end stands;
}

pub returns-clause-flat : goal.returns-clause-flat
returns-clause-flat c = λ p eps stands. c.flat_line.ensures p eps c.args.start c.args.end stands

pub returns-clause-middle : goal.returns-clause-middle
returns-clause-middle c =
    let (p, eps, stands) = c.requires in
    let segment : Segment = record {
      start = c.args.start;
      a = c.line-a.result.0;
      b = c.line-a.result.1;
      line =
          c.line-a.result.2;
      cut = c.args.cut;
    } in
    MeanRises-of_run c.args.hulls.now p eps c.args.start c.args.end segment c.flat_line.result stands refl
    (record {
      pair = c.line-a.ensures.pair p eps c.args.start c.args.end stands;
      line = c.line-a.ensures.line p eps
          c.args.start c.args.end stands;
    })
    (c.flat_line.ensures p eps c.args.start c.args.end stands)
