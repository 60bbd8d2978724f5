-- Each lane's places hold its predecessor, and one is left.
use Rattle.std.proofs.Common.{ℕ, List, length, slice_index, sym, ap, subst, arith}
use Rattle.std.specs.List.Sorted.{IsNonDecreasing}
use Rattle.levels.specs.Indexes.{xs_at}
use Rattle.key_search.specs.Interleaved.{AreAmong}
use Rattle.levels.proofs.LookupLemmas.{ascends}
use Rattle.levels.proofs.RunLemmas.{first_x-order}
use Rattle.levels.proofs.EntryLemmas.{predecessor_at}
use Rattle.levels.proofs.RunLemmas.{AreRuns-from}
use Rattle.levels.proofs.index.Index.runs_among.Goals as goal

pub overflow_cast-last : goal.overflow_cast-last
overflow_cast-last c =
    let value = c.args.self.now in
    let here = ascends value.keys value.eps value.eps_rec
    value.levels c.requires.laid.never_falls c.requires.laid.index 1 (omega (arith, c.requires.above)) in
    omega (arith, ap length c.firsts-list.ensures, here.few, c.requires.laid.few)

pub predecessors_interleaved-requires-clause-order : goal.predecessors_interleaved-requires-clause-order
predecessors_interleaved-requires-clause-order c =
    let value = c.args.self.now in
    subst IsNonDecreasing (sym c.firsts-list.ensures)
    (first_x-order value.keys value.eps value.eps_rec value.levels c.requires.laid.never_falls c.requires.laid.index)

pub predecessors_interleaved-requires-clause-few : goal.predecessors_interleaved-requires-clause-few
predecessors_interleaved-requires-clause-few c =
    let value = c.args.self.now in
    let here = ascends value.keys value.eps value.eps_rec
    value.levels c.requires.laid.never_falls c.requires.laid.index 1 (omega (arith, c.requires.above)) in
    omega (arith, ap length c.firsts-list.ensures, here.few, c.requires.laid.few)

pub returns : goal.returns
returns c =
    let value = c.args.self.now in
    let among : AreAmong (xs_at value.keys value.levels 1) c.args.qs.now c.predecessors_interleaved.new.bases 1 =
    subst (λ (list : List ℕ). AreAmong list c.args.qs.now c.predecessors_interleaved.new.bases 1)
    c.firsts-list.ensures c.predecessors_interleaved.ensures in
    AreRuns-from (xs_at value.keys value.levels 1) c.args.qs.now c.predecessors_interleaved.new.bases among
    (λ k inside. predecessor_at value.keys value.eps value.eps_rec value.levels c.requires.laid.never_falls
    c.requires.laid.index 1 (slice_index c.args.qs.now k) (omega (arith, c.requires.above)) c.requires.some
    (c.requires.from_first k inside))
