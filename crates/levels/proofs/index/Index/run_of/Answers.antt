-- The first x of the runs rise, and the table leads to the predecessor among them.
use Rattle.std.proofs.Common.{ℕ, List, length, sym, ap, subst, arith}
use Rattle.std.specs.List.Sorted.{IsNonDecreasing}
use Rattle.window_search.specs.Searches.{IsPredecessor}
use Rattle.levels.proofs.RunLemmas.{first_x-order}
use Rattle.levels.proofs.EntryLemmas.{predecessor_at, some_keys}
use Rattle.levels.proofs.index.Index.run_of.Goals as goal

pub predecessor_in-requires-clause-order : goal.predecessor_in-requires-clause-order
predecessor_in-requires-clause-order g c =
    let value = c.args.self.now in
    subst IsNonDecreasing (sym c.counted_firsts.ensures)
    (first_x-order value.keys value.eps value.eps_rec value.levels c.requires.laid.never_falls c.requires.laid.index)

pub predecessor_in-requires-clause-range : goal.predecessor_in-requires-clause-range
predecessor_in-requires-clause-range g c =
    let value = c.args.self.now in
    let found = predecessor_at value.keys value.eps value.eps_rec
    value.levels c.requires.laid.never_falls c.requires.laid.index 1 c.args.q (omega (arith, c.requires.some))
    (some_keys value.keys value.levels c.requires.laid.index.none c.requires.some) c.requires.from_first in
    let both = c.in-Some.ensures.holds found.0 found.1 in
    omega (arith, both.0, both.1)

pub predecessor_in-requires-clause-answer : goal.predecessor_in-requires-clause-answer
predecessor_in-requires-clause-answer g c =
    let value = c.args.self.now in
    let found = predecessor_at value.keys value.eps value.eps_rec
    value.levels c.requires.laid.never_falls c.requires.laid.index 1 c.args.q (omega (arith, c.requires.some))
    (some_keys value.keys value.levels c.requires.laid.index.none c.requires.some) c.requires.from_first in
    let both = c.in-Some.ensures.holds found.0 found.1 in (
      found.0,
      subst (λ (xs : List ℕ). IsPredecessor xs c.args.q found.0) (sym c.counted_firsts.ensures) found.1,
      both.0,
      both.1,
    )

pub predecessor_in-requires-clause-within : goal.predecessor_in-requires-clause-within
predecessor_in-requires-clause-within g c =
    let value = c.args.self.now in
    let found = predecessor_at value.keys value.eps value.eps_rec
    value.levels c.requires.laid.never_falls c.requires.laid.index 1 c.args.q (omega (arith, c.requires.some))
    (some_keys value.keys value.levels c.requires.laid.index.none c.requires.some) c.requires.from_first in
    omega (arith, c.in-Some.ensures.within (omega (arith, found.1.inside)), ap length c.counted_firsts.ensures)
