-- No y is below the one before it.
use Rattle.std.proofs.Common.{arith}
use Rattle.exact_cross.proofs.CallerLemmas.{IsNonDecreasing-from_neighbours}
use Rattle.index_tests.proofs.common.never_falls.Goals as goal

pub returns : goal.returns
returns c = λ yes. IsNonDecreasing-from_neighbours c.args.ys.now (λ k inside. c.loop-i.invariant k (omega arith))
