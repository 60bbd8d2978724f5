use Rattle.std.proofs.Common.{◌-◌, arith}
use Rattle.exact_cross.proofs.CallerLemmas.{slice_index-rises}
use Rattle.segmenter.proofs.whole.may_fit.Goals as goal

pub overflow_sub-run : goal.overflow_sub-run
overflow_sub-run g c =
    omega (
      arith,
      slice_index-rises c.args.points.xs.now c.args.from
          (c.args.to - 1) c.args.points.rising (omega arith) (omega arith),
    )
