-- Two steps for each place.
use Rattle.std.proofs.Common.{◌≡◌, ◌+◌, ◌*◌}
use Rattle.segmenter.proofs.whole.may_fit.Given as goal

abbrev pub invariant-loop-i : goal.invariant-loop-i
invariant-loop-i g l = l.steps + 2 ≡ l.fn.steps + 2 * l.i
