-- A witness leaves no line.
use Rattle.std.proofs.Common.{IsTrue, rules}
use Rattle.exact_cross.specs.Points.{points_of}
use Rattle.exact_cross.specs.Witnesses.{IsWitness}
use Rattle.exact_cross.proofs.CallerLemmas.{IsAscending-points_in, no_line_at_witness}
use Rattle.cut_witness.proofs.holds.Goals as goal

pub returns-then-w-points-clause-no_line : goal.returns-then-w-points-clause-no_line
returns-then-w-points-clause-no_line c =
    let xs = c.args.points.xs.now in
    let ys = c.args.points.ys.now in
    let witness : IsTrue c.is_beyond.result → IsWitness (points_of xs ys) c.args.eps c.args.w.now = search rules in
    λ test. no_line_at_witness
    (points_of xs ys) c.args.eps c.args.w.now (IsAscending-points_in c.args.points) (witness test)
