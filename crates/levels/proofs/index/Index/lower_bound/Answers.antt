-- The last level's one run has the predecessor, and below the first key there is no key. The steps' bounds multiply.
use Rattle.std.proofs.Common.{◌+◌, ◌-◌, ◌*◌, ℕ, List, length, slice_index, ap, ◌∙◌, arith}
use Rattle.levels.specs.Costs.{TakesAtMost}
use Rattle.levels.proofs.EntryLemmas.{lookup-entry}
use Rattle.levels.proofs.LookupLemmas.{none_below}
use Rattle.levels.proofs.CostLemmas.{lookup-one, lookup-last}
use Rattle.levels.proofs.index.Index.lower_bound.Goals as goal

pub returns-then-q-first-clause-found : goal.returns-then-q-first-clause-found
returns-then-q-first-clause-found g c =
    let file = c.counted_file-keys.ensures in
    let read = c.read-first.ensures.key ∙ ap (λ (l : List ℕ). slice_index l 0) file.keys in
    none_below c.args.self.now.keys c.args.q file.never_falls (λ some. omega (arith, c.if-q-first.true, read))

pub returns-then-q-first-clause-cost : goal.returns-then-q-first-clause-cost
returns-then-q-first-clause-cost g c = λ some.
    let value = c.args.self.now in
    lookup-one value.eps value.eps_rec
    (length value.levels) c.args.steps.now c.read-first.new.steps c.read-first.ensures.cost

pub run_of-run-requires-clause-from_first : goal.run_of-run-requires-clause-from_first
run_of-run-requires-clause-from_first g c =
    let read = c.read-first.ensures.key ∙ ap (λ (l : List ℕ). slice_index l 0) c.counted_file-keys.ensures.keys in
    omega (arith, c.if-q-first.false, read)

pub returns-clause-cost : goal.returns-clause-cost
returns-clause-cost g c = λ some.
    let value = c.args.self.now in
    let steps = c.lower_in.ensures.cost in
    let narrow = c.window_by_model-low.ensures.narrow in
    let last : TakesAtMost (2 * (2 * value.eps + 3)) c.run_of-run.new.steps c.lower_in.new.steps =
    record { t = steps.0; taken = steps.1; within = omega (arith, steps.2, narrow) } in
    let above = lookup-entry (4 * (2 * value.eps_rec + 3)) (length value.levels - 1) c.args.steps.now
    c.read-first.new.steps c.run_of-run.new.steps c.read-first.ensures.cost c.run_of-run.ensures.cost in
    lookup-last value.eps value.eps_rec (length value.levels)
    (length value.levels - 1) c.args.steps.now c.run_of-run.new.steps c.lower_in.new.steps (omega arith) above last
