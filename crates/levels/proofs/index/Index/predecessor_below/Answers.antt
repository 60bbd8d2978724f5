-- The window of the run holds the predecessor.
use Rattle.std.proofs.Common.{ℕ, List, length, sym, ap, subst, arith}
use Rattle.std.specs.List.Sorted.{IsNonDecreasing}
use Rattle.window_search.specs.Searches.{IsPredecessor}
use Rattle.levels.specs.Indexes.{xs_at}
use Rattle.levels.proofs.StoredLemmas.{eps_at-above}
use Rattle.levels.proofs.LookupLemmas.{no_segment, extent_at-above, ascends}
use Rattle.levels.proofs.LookupLemmas.{has_predecessor, IsNonDecreasing-from_rising}
use Rattle.levels.proofs.index.Index.predecessor_below.Goals as goal

pub predecessor_in-requires-clause-order : goal.predecessor_in-requires-clause-order
predecessor_in-requires-clause-order g c =
    let value = c.args.self.now in
    let here = ascends value.keys value.eps value.eps_rec value.levels
    c.requires.laid.never_falls c.requires.laid.index c.args.level (omega (arith, c.requires.inside)) in
    subst IsNonDecreasing (sym c.counted_firsts.ensures)
    (IsNonDecreasing-from_rising (xs_at value.keys value.levels c.args.level) here.rises)

pub predecessor_in-requires-clause-within : goal.predecessor_in-requires-clause-within
predecessor_in-requires-clause-within g c =
    omega (
      arith,
      ap length c.counted_firsts.ensures,
      c.window_by_model-low.ensures.within,
      extent_at-above c.args.self.now.keys c.args.self.now.levels c.args.level c.requires.above,
    )

pub predecessor_in-requires-clause-answer : goal.predecessor_in-requires-clause-answer
predecessor_in-requires-clause-answer g c =
    let value = c.args.self.now in
    let found = has_predecessor value.keys value.eps value.eps_rec value.levels c.requires.laid.never_falls
    c.requires.laid.index no_segment c.args.level c.args.run c.args.q c.requires.inside c.requires.run in
    let held = c.window_by_model-low.ensures.holds.predecessor found.0 c.requires.above found.1 in (
      found.0,
      subst (λ (xs : List ℕ). IsPredecessor xs c.args.q found.0) (sym c.counted_firsts.ensures) found.1,
      held.0,
      held.1,
    )

pub returns-clause-cost : goal.returns-clause-cost
returns-clause-cost g c =
    let value = c.args.self.now in
    let steps = c.predecessor_in.ensures.cost in
    let bound = eps_at-above value.eps value.eps_rec c.args.level c.requires.above in
    let narrow = c.window_by_model-low.ensures.narrow in
    record { t = steps.0; taken = steps.1; within = omega (arith, steps.2, bound, narrow) }
