-- One more code; from one on that is not kept no other is, and at the end all are gone through.
use Rattle.std.proofs.Common.{◌≡◌, ◌≤◌, sym, ◌∙◌, subst, refl, inl, inr, [], ◌∷◌, All, get_or, arith, List, ℕ}
use Rattle.std.proofs.lemmas.Bool.{cases_lt, iff_false}
use Rattle.std.proofs.lemmas.List.{take_all}
use Rattle.near.specs.Kept.{AreKept, rank}
use Rattle.near.specs.Nearest.{pairs_of}
use Rattle.near.proofs.HeapLemmas.{rank_at}
use Rattle.near.proofs.KeptLemmas.{kept_no_equal, kept_none, kept_one_more}
use Rattle.near.proofs.walk.keep_equal.Goals as goal

pub loop-code-init : goal.loop-code-init
loop-code-init c = record { kept = kept_none c.args.kept.now c.requires.some c.requires.heap; heap = c.requires.heap }

pub loop-code-preserved : goal.loop-code-preserved
loop-code-preserved c =
    let z = get_or c.args.codes.now c.loop-code.code-index 0 in
    let one = subst (λ (far : ℕ). AreKept c.loop-code.kept ((far, z) ∷ []) c.keep.new.kept)
    c.distance_from.ensures c.keep.ensures.kept in
    record {
      kept = kept_one_more c.args.d c.args.centre.now c.args.codes.now
          c.loop-code.code-index z c.args.kept.now c.loop-code.kept c.keep.new.kept c.loop-code-test.true refl
          c.loop-code.invariant.kept one;
      heap = c.keep.ensures.heap;
    }

pub returns-then-not-stands_before-clause-kept : goal.returns-then-not-stands_before-clause-kept
returns-then-not-stands_before-clause-kept c =
    let codes = c.args.codes.now in
    let d = c.args.d in
    let centre = c.args.centre.now in
    let z = get_or codes c.loop-code.code-index 0 in
    let kept = c.loop-code.kept in
    let behind : rank_at kept 0 ≤ rank (c.distance_from.result, z) =
    elim (cases_lt (rank (c.distance_from.result, z)) (rank_at kept 0)) [
      | inl before ↦ absurd (iff_false c.stands_before.ensures c.if-not-stands_before.true before)
      | inr rest ↦ rest
    ] in
    let equal : All (λ w. w ≡ z) codes = λ k e within. c.requires.equal k e within
    ∙ sym (c.requires.equal c.loop-code.code-index 0 c.loop-code-test.true) in
    kept_no_equal d centre codes c.loop-code.code-index z c.args.kept.now kept equal
    (omega arith) c.loop-code.invariant.heap
    (subst (λ (far : ℕ). rank_at kept 0 ≤ rank (far, z)) c.distance_from.ensures behind) c.loop-code.invariant.kept

pub returns-clause-kept : goal.returns-clause-kept
returns-clause-kept c =
    subst (λ (codes : List ℕ). AreKept c.args.kept.now (pairs_of c.args.d c.args.centre.now codes) c.loop-code.kept)
    (take_all c.loop-code.code-index c.args.codes.now (omega arith)) c.loop-code.invariant.kept
