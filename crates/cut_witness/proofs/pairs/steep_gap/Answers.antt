-- The x rise with their places, and the sums fit.
use Rattle.std.proofs.Common.{◌+◌, ◌*◌, arith}
use Rattle.exact_cross.proofs.CallerLemmas.{slice_index-rises}
use Rattle.cut_witness.proofs.PairGaps.{small_sum}
use Rattle.cut_witness.proofs.pairs.steep_gap.Goals as goal

pub overflow_sub-points : goal.overflow_sub-points
overflow_sub-points c =
    omega (
      arith,
      slice_index-rises c.args.points.xs.now c.args.a c.args.b c.args.points.rising c.requires.pair c.requires.to_end,
    )

pub returns-clause-small : goal.returns-clause-small
returns-clause-small c =
    small_sum c.from-2.result c.from-width.result
    (c.from.result + 2 * c.from-slack.result) c.from-3.result (2 * c.from-slack.result)
    (omega arith) (omega arith) (omega arith) (omega arith) (omega arith)
