-- Rising keys are their own distinct ones, and the x of their points.
use Rattle.std.proofs.Common.{length, ap, arith}
use Rattle.std.specs.List.Sorted.{IsNonDecreasing}
use Rattle.exact_cross.proofs.CallerLemmas.{IsNonDecreasing-from_neighbours}
use Rattle.key_points.proofs.AloneLemmas.{distinct_of-rising, xs_of-alone}
use Rattle.key_points.proofs.keys.Keys.of_distinct.Goals as goal

pub invariant_of-result : goal.invariant_of-result
invariant_of-result c =
    let keys = c.args.rising.items in
    let order : IsNonDecreasing keys =
    IsNonDecreasing-from_neighbours keys (λ k inside. omega (arith, c.requires.rises k inside)) in
    let alone = distinct_of-rising keys c.requires.rises in
    record {
      never_falls = order;
      few = omega (arith, c.args.rising.ok.0, c.requires.few);
      counted = omega (arith, c.len-count.ensures, c.args.rising.ok.0, ap length alone);
      pointed = omega (arith, c.len-count.ensures, c.args.rising.ok.0, ap length (xs_of-alone keys order alone));
    }
