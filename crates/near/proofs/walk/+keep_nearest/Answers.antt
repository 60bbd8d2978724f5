-- No code of a stretch that is left out is kept, and those of two halves are those of the whole.
use Rattle.std.proofs.Common.{◌-◌, sym, ◌∙◌, inl, inr, length, get_or, arith}
use Rattle.std.proofs.lemmas.List.{get_or_default}
use Rattle.std.proofs.lemmas.Bool.{cases_lt, eqb-true, iff_false}
use Rattle.near.specs.Kept.{rank}
use Rattle.near.proofs.HeapLemmas.{rank_at}
use Rattle.near.proofs.KeptLemmas.{kept_empty, kept_left_first, kept_no_further, kept_right_first}
use Rattle.near.proofs.walk.+keep_nearest.Goals as goal

pub returns-then-left_away-right_away-clause-kept : goal.returns-then-left_away-right_away-clause-kept
returns-then-left_away-right_away-clause-kept t c =
    kept_left_first c.args.d c.args.centre.now c.args.codes.now
    c.split_at.result.0.now c.split_at.result.1.now c.cut.result c.args.kept.now c.keep_nearest.new.kept
    c.keep_nearest-then-left_away-right_away.new.kept
    c.split_at.ensures.front c.split_at.ensures.back c.keep_nearest.ensures.kept
    c.keep_nearest-then-left_away-right_away.ensures.kept

pub returns-else-left_away-right_away-clause-kept : goal.returns-else-left_away-right_away-clause-kept
returns-else-left_away-right_away-clause-kept t c =
    kept_right_first c.args.d
    c.args.centre.now c.args.codes.now c.split_at.result.0.now c.split_at.result.1.now c.cut.result c.args.kept.now
    c.keep_nearest-else-left_away-right_away.new.kept
    c.keep_nearest-else-left_away-right_away-2.new.kept c.split_at.ensures.front c.split_at.ensures.back
    c.keep_nearest-else-left_away-right_away.ensures.kept c.keep_nearest-else-left_away-right_away-2.ensures.kept

pub keep_equal-requires-clause-equal : goal.keep_equal-requires-clause-equal
keep_equal-requires-clause-equal t c = λ k e within.
    let codes = c.args.codes.now in
    let order = c.requires.never_falls in
    omega (
      arith,
      order 0 k 0 (omega arith) within,
      order k (length codes - 1) 0 (omega arith) (omega arith),
      get_or_default codes k e 0 within,
      c.if-codes.true,
    )

pub returns-then-is_empty-clause-kept : goal.returns-then-is_empty-clause-kept
returns-then-is_empty-clause-kept t c =
    kept_empty c.args.d c.args.centre.now c.args.codes.now c.args.kept.now c.requires.some c.requires.heap
    (eqb-true (length c.args.codes.now) 0 (sym c.is_empty.ensures ∙ c.if-is_empty.true))

pub returns-then-not-stands_before-clause-kept : goal.returns-then-not-stands_before-clause-kept
returns-then-not-stands_before-clause-kept t c =
    let codes = c.args.codes.now in
    let kept = c.args.kept.now in
    kept_no_further c.args.d
    c.args.centre.now codes c.args.away kept c.requires.some c.requires.heap c.requires.never_falls c.requires.away
    (elim (cases_lt (rank (c.args.away, get_or codes 0 0)) (rank_at kept 0)) [
      | inl before ↦ absurd (iff_false c.stands_before.ensures c.if-not-stands_before.true before)
      | inr behind ↦ behind
    ])
