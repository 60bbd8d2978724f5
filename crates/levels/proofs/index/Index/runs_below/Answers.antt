-- Each lane's places hold its predecessor, and one is left.
use Rattle.std.proofs.Common.{ℕ, List, length, slice_index, sym, ap, subst, arith}
use Rattle.std.specs.List.Sorted.{IsNonDecreasing}
use Rattle.levels.specs.Indexes.{xs_at}
use Rattle.key_search.specs.Interleaved.{AreAmong}
use Rattle.levels.proofs.LookupLemmas.{no_segment, ascends, has_predecessor, IsNonDecreasing-from_rising}
use Rattle.levels.proofs.RunLemmas.{AreRuns-from}
use Rattle.levels.proofs.index.Index.runs_below.Goals as goal

pub overflow_cast-list : goal.overflow_cast-list
overflow_cast-list c =
    let value = c.args.self.now in
    let here = ascends value.keys value.eps value.eps_rec value.levels
    c.requires.laid.never_falls c.requires.laid.index c.args.level (omega (arith, c.requires.inside)) in
    omega (arith, ap length c.firsts-list.ensures, here.few, c.requires.laid.few)

pub predecessors_interleaved-requires-clause-order : goal.predecessors_interleaved-requires-clause-order
predecessors_interleaved-requires-clause-order c =
    let value = c.args.self.now in
    let here = ascends value.keys value.eps value.eps_rec value.levels
    c.requires.laid.never_falls c.requires.laid.index c.args.level (omega (arith, c.requires.inside)) in
    subst IsNonDecreasing (sym c.firsts-list.ensures)
    (IsNonDecreasing-from_rising (xs_at value.keys value.levels c.args.level) here.rises)

pub predecessors_interleaved-requires-clause-few : goal.predecessors_interleaved-requires-clause-few
predecessors_interleaved-requires-clause-few c =
    let value = c.args.self.now in
    let here = ascends value.keys value.eps value.eps_rec value.levels
    c.requires.laid.never_falls c.requires.laid.index c.args.level (omega (arith, c.requires.inside)) in
    omega (arith, ap length c.firsts-list.ensures, here.few, c.requires.laid.few)

pub predecessors_interleaved-requires-clause-some : goal.predecessors_interleaved-requires-clause-some
predecessors_interleaved-requires-clause-some c =
    let value = c.args.self.now in
    let found = has_predecessor value.keys value.eps value.eps_rec value.levels c.requires.laid.never_falls
    c.requires.laid.index no_segment c.args.level (slice_index c.args.runs.now 0) (slice_index c.args.qs.now 0)
    c.requires.inside (c.requires.runs.each 0 (omega arith)) in
    omega (arith, c.min-count.ensures, ap length c.firsts-list.ensures, found.1.inside)

pub returns : goal.returns
returns c =
    let value = c.args.self.now in
    let among :
    AreAmong (xs_at value.keys value.levels c.args.level) c.args.qs.now c.predecessors_interleaved.new.bases 1 =
    subst (λ (list : List ℕ). AreAmong list c.args.qs.now c.predecessors_interleaved.new.bases 1)
    c.firsts-list.ensures c.predecessors_interleaved.ensures in
    AreRuns-from (xs_at value.keys value.levels c.args.level) c.args.qs.now c.predecessors_interleaved.new.bases among
    (λ k inside. has_predecessor value.keys value.eps value.eps_rec value.levels c.requires.laid.never_falls
    c.requires.laid.index no_segment c.args.level (slice_index c.args.runs.now k) (slice_index c.args.qs.now k)
    c.requires.inside (c.requires.runs.each k inside))
