-- The one takes the place of the one in front, or it isn't kept.
use Rattle.std.proofs.Common.{inl, inr}
use Rattle.std.proofs.lemmas.Bool.{cases_lt, iff_false}
use Rattle.neighbours.specs.Chosen.{Always}
use Rattle.neighbours.specs.Neighbours.{rank_of}
use Rattle.neighbours.proofs.HeapLemmas.{rank_at}
use Rattle.neighbours.proofs.KeptLemmas.{kept_instead, kept_not}
use Rattle.neighbours.proofs.heap.keep.Goals as goal

pub returns-then-stands_before-clause-kept : goal.returns-then-stands_before-clause-kept
returns-then-stands_before-clause-kept c =
    kept_instead Always c.args.heap.now c.sink.new.heap c.args.one c.requires.some c.requires.heap
    (c.stands_before.ensures.0 c.if-stands_before.true) c.sink.ensures.same

pub returns-else-stands_before-clause-kept : goal.returns-else-stands_before-clause-kept
returns-else-stands_before-clause-kept c =
    kept_not Always c.args.heap.now c.args.one c.requires.some c.requires.heap
    (elim (cases_lt (rank_of c.args.one) (rank_at c.args.heap.now 0)) [
      | inl before ↦ absurd (iff_false c.stands_before.ensures c.if-stands_before.false before)
      | inr behind ↦ behind
    ])
