-- No place of a stretch that is left out is kept, and those of two halves are those of the whole.
use Rattle.std.proofs.Common.{◌-◌, ◌≤◌, sym, ◌∙◌, subst, inl, inr, length, arith}
use Rattle.std.proofs.lemmas.List.{get_or_default}
use Rattle.std.proofs.lemmas.Bool.{cases_lt, eqb-true, iff_false}
use Rattle.neighbours.specs.declared.neighbour.Neighbour.{Neighbour}
use Rattle.neighbours.specs.Metrics.{AreInOrder, far}
use Rattle.neighbours.specs.Neighbours.{rank_of}
use Rattle.neighbours.proofs.HeapLemmas.{rank_at}
use Rattle.neighbours.proofs.StretchLemmas.{halves_left_first, halves_right_first, kept_no_codes, kept_no_further}
use Rattle.neighbours.proofs.walk.+keep_nearest.Goals as goal

pub returns-then-is_empty-clause-kept : goal.returns-then-is_empty-clause-kept
returns-then-is_empty-clause-kept g t c =
    kept_no_codes (AreInOrder c.args.centre.now.d c.args.codes.now)
    (far g.M.Metric.step c.args.centre.now.d c.args.centre.now.coords) c.args.first c.args.codes.now
    c.args.kept.now c.requires.some c.requires.heap
    (eqb-true (length c.args.codes.now) 0 (sym c.is_empty.ensures ∙ c.if-is_empty.true))

pub returns-then-not-stands_before-clause-kept : goal.returns-then-not-stands_before-clause-kept
returns-then-not-stands_before-clause-kept g t c =
    let kept = c.args.kept.now in
    kept_no_further (far g.M.Metric.step c.args.centre.now.d c.args.centre.now.coords)
    (AreInOrder c.args.centre.now.d c.args.codes.now) c.args.codes.now c.args.first c.args.away
    kept c.requires.some c.requires.heap c.requires.away
    (subst (λ (one : Neighbour). rank_at kept 0 ≤ rank_of one) c.new.ensures
    (elim (cases_lt (rank_of c.new.result) (rank_at kept 0)) [
      | inl before ↦ absurd (iff_false c.stands_before.ensures c.if-not-stands_before.true before)
      | inr behind ↦ behind
    ]))

pub keep_equal-requires-clause-equal : goal.keep_equal-requires-clause-equal
keep_equal-requires-clause-equal g t c = λ are k e within.
    let codes = c.args.codes.now in
    omega (
      arith,
      are.never_falls 0 k 0 (omega arith) within,
      are.never_falls k (length codes - 1) 0 (omega arith) (omega arith),
      get_or_default codes k e 0 within,
      c.if-codes.true,
    )

pub returns-then-left_away-right_away-clause-kept : goal.returns-then-left_away-right_away-clause-kept
returns-then-left_away-right_away-clause-kept g t c =
    halves_left_first (far g.M.Metric.step c.args.centre.now.d c.args.centre.now.coords) c.args.centre.now.d
    c.args.codes.now c.split_at.result.0.now c.split_at.result.1.now c.args.first c.cut-middle.result
    (omega (arith, c.cut-middle.ensures.right)) c.split_at.ensures.front c.split_at.ensures.back
    c.args.kept.now c.keep_nearest.new.kept c.keep_nearest-then-left_away-right_away.new.kept
    c.keep_nearest.ensures.kept c.keep_nearest-then-left_away-right_away.ensures.kept

pub returns-else-left_away-right_away-clause-kept : goal.returns-else-left_away-right_away-clause-kept
returns-else-left_away-right_away-clause-kept g t c =
    halves_right_first (far g.M.Metric.step c.args.centre.now.d c.args.centre.now.coords) c.args.centre.now.d
    c.args.codes.now c.split_at.result.0.now c.split_at.result.1.now c.args.first c.cut-middle.result
    (omega (arith, c.cut-middle.ensures.right)) c.split_at.ensures.front c.split_at.ensures.back
    c.args.kept.now c.keep_nearest-else-left_away-right_away.new.kept
    c.keep_nearest-else-left_away-right_away-2.new.kept
    c.keep_nearest-else-left_away-right_away.ensures.kept c.keep_nearest-else-left_away-right_away-2.ensures.kept
