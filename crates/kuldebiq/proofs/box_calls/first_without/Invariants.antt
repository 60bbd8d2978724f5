-- Each coordinate so far has an interval.
use Rattle.std.proofs.Common.{ℕ, ◌<◌}
use Rattle.kuldebiq.specs.Points.{HasInterval}
use Rattle.kuldebiq.proofs.box_calls.first_without.Given as goal

abbrev pub invariant-loop-c : goal.invariant-loop-c
invariant-loop-c l = (c : ℕ) → c < l.c → HasInterval l.region c
