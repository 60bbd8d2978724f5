use Rattle.std.proofs.Common.{arith}
use Rattle.exact_cross.proofs.CallerLemmas.{slice_index-rises}
use Rattle.segmenter.proofs.whole.Extremes.of.Goals as goal

pub overflow_sub-line-3 : goal.overflow_sub-line-3
overflow_sub-line-3 c =
    omega (
      arith,
      slice_index-rises
          c.args.points.xs.now c.args.a c.args.b c.args.points.rising c.requires.rises c.requires.inside,
    )
