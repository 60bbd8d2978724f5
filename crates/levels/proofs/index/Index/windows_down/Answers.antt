-- The last level's one run has the predecessor, and each window has that of the level below.
use Rattle.std.proofs.Common.{◌≡◌, ◌+◌, ◌-◌, ℕ, List, length, sym, subst, arith}
use Rattle.std.specs.List.Sorted.{IsNonDecreasing}
use Rattle.window_search.specs.Searches.{IsPredecessor}
use Rattle.levels.specs.Indexes.{xs_at}
use Rattle.levels.proofs.LookupLemmas.{no_segment, ascends, top_run, has_predecessor, IsNonDecreasing-from_rising}
use Rattle.levels.proofs.WindowLists.{HasWindowsTo-none}
use Rattle.levels.proofs.index.Index.windows_down.Goals as goal

pub loop-level-init : goal.loop-level-init
loop-level-init g c =
    let value = c.args.self.now in
    let index = c.level_count-level.ensures.index in
    let count = c.level_count-level.ensures.count in
    let last : c.level_count-level.result - 1 + 1
    ≡ length value.levels = omega (arith, count, index.some c.requires.some) in
    record {
      inside = omega (arith, last);
      run = top_run value.keys value.eps value.eps_rec value.levels c.requires.laid.never_falls index no_segment
          (c.level_count-level.result - 1) c.args.q last c.requires.some c.requires.from_first;
      windows = HasWindowsTo-none value c.args.q (c.level_count-level.result - 1 + 1) c.args.into.now.items last
          (omega (arith, c.requires.empty, c.args.into.now.ok.0));
      room = c.requires.room;
      capacity = omega arith;
    }

pub predecessor_in-run-requires-clause-order : goal.predecessor_in-run-requires-clause-order
predecessor_in-run-requires-clause-order g c =
    let value = c.args.self.now in
    let here = ascends value.keys value.eps value.eps_rec value.levels c.requires.laid.never_falls
    c.level_count-level.ensures.index c.loop-level.level (omega (arith, c.loop-level.invariant.inside)) in
    subst IsNonDecreasing (sym c.counted_firsts.ensures)
    (IsNonDecreasing-from_rising (xs_at value.keys value.levels c.loop-level.level) here.rises)

pub predecessor_in-run-requires-clause-answer : goal.predecessor_in-run-requires-clause-answer
predecessor_in-run-requires-clause-answer g c =
    let value = c.args.self.now in
    let level = c.loop-level.level in
    let found = has_predecessor
    value.keys value.eps value.eps_rec value.levels c.requires.laid.never_falls c.level_count-level.ensures.index
    no_segment level c.loop-level.run c.args.q c.loop-level.invariant.inside c.loop-level.invariant.run in
    let held = c.push_window-low.ensures.holds.predecessor found.0 c.loop-level-test.true found.1 in (
      found.0,
      subst (λ (xs : List ℕ). IsPredecessor xs c.args.q found.0) (sym c.counted_firsts.ensures) found.1,
      held.0,
      held.1,
    )
