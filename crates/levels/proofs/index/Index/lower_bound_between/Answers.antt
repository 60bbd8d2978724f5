-- The last run that begins at or before the question has its
-- predecessor. Where all begin behind it, no key is below it.
use Rattle.std.proofs.Common.{◌+◌, ◌-◌, ◌*◌, ◌≤◌, ℕ, arith}
use Rattle.levels.specs.Costs.{TakesAtMost}
use Rattle.levels.proofs.RunLemmas.{level_of-run, lb-before_runs}
use Rattle.levels.proofs.CostLemmas.{TakesAtMost-more, TakesAtMost-raise}
use Rattle.levels.proofs.index.Index.lower_bound_between.Goals as goal

pub returns-then-begun-eq0-clause-found : goal.returns-then-begun-eq0-clause-found
returns-then-begun-eq0-clause-found g c =
    let value = c.args.self.now in
    let runs = c.runs-runs.ensures in
    let begun = rw c.counted_starts.ensures.starts at c.begun_in-begun.ensures.begun in
    lb-before_runs value.keys value.eps value.eps_rec value.levels c.args.q runs.never_falls runs.index
    (λ k inside. begun.from k (omega (arith, c.if-begun-eq0.true)) inside)

pub window_by_model-low-requires-clause-inside : goal.window_by_model-low-requires-clause-inside
window_by_model-low-requires-clause-inside g c =
    let begun = rw c.counted_starts.ensures.starts at c.begun_in-begun.ensures.begun in
    (level_of-run c.args.self.now.keys c.args.self.now.levels
    (c.begun_in-begun.result - 1) (omega (arith, begun.within, c.if-begun-eq0.false))).0

product : (wide eps : ℕ) → 2 * (wide + 1) * (2 * (2 * eps + 3)) ≤ 4 * (wide + 1) * (2 * eps + 3)
product wide eps = omega arith

pub returns-clause-cost : goal.returns-clause-cost
returns-clause-cost g c =
    let eps = c.args.self.now.eps in
    let wide = c.args.most - c.args.least in
    let halved = c.lower_in.ensures.cost in
    let last : TakesAtMost (2 * (2 * eps + 3)) c.begun_in-begun.new.steps c.lower_in.new.steps =
    record { t = halved.0; taken = halved.1; within = omega (arith, halved.2, c.window_by_model-low.ensures.narrow) } in
    let open_runs = c.begun_between-low.result.1 - c.begun_between-low.result.0 in
    let first = TakesAtMost-raise (2 * (open_runs + 1)) (2 * (wide + 1)) c.args.steps.now c.begun_in-begun.new.steps
    (omega (arith, c.begun_between-low.ensures.narrower)) c.begun_in-begun.ensures.cost in
    TakesAtMost-raise (2 * (wide + 1) * (2 * (2 * eps + 3)))
    (4 * (wide + 1) * (2 * eps + 3)) c.args.steps.now c.lower_in.new.steps (product wide eps)
    (TakesAtMost-more (2 * (wide + 1))
    (2 * (2 * eps + 3)) c.args.steps.now c.begun_in-begun.new.steps c.lower_in.new.steps first last)
