-- One more code; from one on that is not kept no other is, and at the end all are gone through.
use Rattle.std.proofs.Common.{◌+◌, ◌≤◌, ℕ, List, [], ◌∷◌, get_or}
use Rattle.std.proofs.Common.{refl, sym, ap, ◌∙◌, subst, inl, inr, arith}
use Rattle.std.proofs.lemmas.Bool.{cases_lt, iff_false}
use Rattle.std.proofs.lemmas.List.{take_all}
use Rattle.neighbours.specs.declared.neighbour.Neighbour.{Neighbour}
use Rattle.neighbours.specs.Chosen.{Always, AreStillKept}
use Rattle.neighbours.specs.Metrics.{AreInOrder, far}
use Rattle.neighbours.specs.Neighbours.{neighbour_at, neighbours_from, rank_of}
use Rattle.neighbours.proofs.HeapLemmas.{rank_at}
use Rattle.neighbours.proofs.KeptLemmas.{kept_if}
use Rattle.neighbours.proofs.StretchLemmas.{kept_no_equal, kept_one_more, none_of}
use Rattle.neighbours.proofs.walk.keep_equal.Goals as goal

pub loop-i-init : goal.loop-i-init
loop-i-init g c = record {
  kept = none_of (AreInOrder c.args.centre.now.d c.args.codes.now)
      (far g.M.Metric.step c.args.centre.now.d c.args.centre.now.coords) c.args.first c.args.codes.now
      c.args.kept.now c.requires.some c.requires.heap;
  heap = c.requires.heap;
}

pub loop-i-preserved : goal.loop-i-preserved
loop-i-preserved g c =
    let P = AreInOrder c.args.centre.now.d c.args.codes.now in
    let by = far g.M.Metric.step c.args.centre.now.d c.args.centre.now.coords in
    let at = c.loop-i.i in
    let z = get_or c.args.codes.now at 0 in
    let is = c.new-one.ensures ∙ ap (λ (n : ℕ). neighbour_at n (c.args.first + at)) c.distance.ensures in
    record {
      kept = kept_one_more by P c.args.codes.now c.args.first at z c.args.kept.now c.loop-i.kept c.keep.new.heap
          (omega arith) refl c.loop-i.invariant.kept
          (kept_if Always P c.loop-i.kept
          (neighbour_at (by z) (c.args.first + at) ∷ []) c.keep.new.heap (λ _. omega arith)
          (subst (λ (one : Neighbour). AreStillKept Always c.loop-i.kept (one ∷ []) c.keep.new.heap) is
          c.keep.ensures.kept));
      heap = c.keep.ensures.heap;
    }

pub returns-then-not-stands_before-clause-kept : goal.returns-then-not-stands_before-clause-kept
returns-then-not-stands_before-clause-kept g c =
    let P = AreInOrder c.args.centre.now.d c.args.codes.now in
    let by = far g.M.Metric.step c.args.centre.now.d c.args.centre.now.coords in
    let at = c.loop-i.i in
    let z = get_or c.args.codes.now at 0 in
    let kept = c.loop-i.kept in
    let is = c.new-one.ensures ∙ ap (λ (n : ℕ). neighbour_at n (c.args.first + at)) c.distance.ensures in
    let behind : rank_at kept 0 ≤ rank_of c.new-one.result =
    elim (cases_lt (rank_of c.new-one.result) (rank_at kept 0)) [
      | inl before ↦ absurd (iff_false c.stands_before.ensures c.if-not-stands_before.true before)
      | inr rest ↦ rest
    ] in
    kept_no_equal by P c.args.codes.now c.args.first at z c.args.kept.now kept (omega arith)
    (λ p k e within. c.requires.equal p k e within ∙ sym (c.requires.equal p at 0 (omega arith)))
    (omega arith) c.loop-i.invariant.heap
    (subst (λ (one : Neighbour). rank_at kept 0 ≤ rank_of one) is behind) c.loop-i.invariant.kept

pub returns-clause-kept : goal.returns-clause-kept
returns-clause-kept g c =
    subst (λ (codes : List ℕ). AreStillKept (AreInOrder c.args.centre.now.d c.args.codes.now) c.args.kept.now
    (neighbours_from (far g.M.Metric.step c.args.centre.now.d c.args.centre.now.coords) c.args.first codes)
    c.loop-i.kept)
    (take_all c.loop-i.i c.args.codes.now (omega arith)) c.loop-i.invariant.kept
