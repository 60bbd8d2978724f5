use Rattle.std.proofs.Common.{arith}
use Rattle.exact_cross.proofs.CallerLemmas.{slice_index-rises}
use Rattle.segmenter.proofs.whole.steep_slope.Goals as goal

pub overflow_sub-run : goal.overflow_sub-run
overflow_sub-run c =
    omega (
      arith,
      slice_index-rises
          c.args.points.xs.now c.args.a c.args.b c.args.points.rising c.requires.rises c.requires.inside,
    )

pub returns : goal.returns
returns c =
    omega (
      arith,
      slice_index-rises
          c.args.points.xs.now c.args.a c.args.b c.args.points.rising c.requires.rises c.requires.inside,
    )
