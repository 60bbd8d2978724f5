-- The last level has one run, and above each other one the first x are few.
use Rattle.std.proofs.Common.{◌+◌, ℕ, List, length, sym, ap, subst, arith}
use Rattle.std.specs.List.Sorted.{IsNonDecreasing}
use Rattle.window_search.specs.Searches.{IsPredecessor}
use Rattle.levels.specs.Indexes.{xs_at}
use Rattle.levels.proofs.LookupLemmas.{no_segment, ascends, top_run, IsNonDecreasing-from_rising}
use Rattle.levels.proofs.EntryLemmas.{predecessor_at, some_keys}
use Rattle.levels.proofs.index.Index.entry_run.Goals as goal

pub returns-then-entry-levels-clause-found : goal.returns-then-entry-levels-clause-found
returns-then-entry-levels-clause-found g c =
    let value = c.args.self.now in
    top_run value.keys value.eps value.eps_rec value.levels c.requires.laid.never_falls c.requires.laid.index
    no_segment c.args.entry c.args.q (omega (arith, c.level_count-levels.ensures.count, c.if-entry-levels.true))
    (some_keys value.keys value.levels c.requires.laid.index.none c.requires.some) c.requires.from_first

pub overflow_cast-len : goal.overflow_cast-len
overflow_cast-len g c =
    let value = c.args.self.now in
    let here = ascends value.keys value.eps value.eps_rec value.levels c.requires.laid.never_falls c.requires.laid.index
    (c.args.entry + 1) (omega (arith, c.requires.entry.inside c.requires.some)) in
    omega (arith, c.len.ensures, ap length c.counted_firsts-list.ensures, here.few, c.requires.laid.few)

pub overflow_sub-len : goal.overflow_sub-len
overflow_sub-len g c =
    let value = c.args.self.now in
    let found = predecessor_at value.keys value.eps value.eps_rec value.levels c.requires.laid.never_falls
    c.requires.laid.index (c.args.entry + 1) c.args.q (omega (arith, c.requires.entry.inside c.requires.some))
    (some_keys value.keys value.levels c.requires.laid.index.none c.requires.some) c.requires.from_first in
    omega (arith, c.len.ensures, ap length c.counted_firsts-list.ensures, found.1.inside)

pub predecessor_in-requires-clause-order : goal.predecessor_in-requires-clause-order
predecessor_in-requires-clause-order g c =
    let value = c.args.self.now in
    let here = ascends value.keys value.eps value.eps_rec value.levels c.requires.laid.never_falls c.requires.laid.index
    (c.args.entry + 1) (omega (arith, c.requires.entry.inside c.requires.some)) in
    subst IsNonDecreasing (sym c.counted_firsts-list.ensures)
    (IsNonDecreasing-from_rising (xs_at value.keys value.levels (c.args.entry + 1)) here.rises)

pub predecessor_in-requires-clause-answer : goal.predecessor_in-requires-clause-answer
predecessor_in-requires-clause-answer g c =
    let value = c.args.self.now in
    let found = predecessor_at value.keys value.eps value.eps_rec value.levels c.requires.laid.never_falls
    c.requires.laid.index (c.args.entry + 1) c.args.q (omega (arith, c.requires.entry.inside c.requires.some))
    (some_keys value.keys value.levels c.requires.laid.index.none c.requires.some) c.requires.from_first in (
      found.0,
      subst (λ (xs : List ℕ). IsPredecessor xs c.args.q found.0) (sym c.counted_firsts-list.ensures) found.1,
      omega arith,
      omega (arith, c.len.ensures, ap length c.counted_firsts-list.ensures, found.1.inside),
    )
