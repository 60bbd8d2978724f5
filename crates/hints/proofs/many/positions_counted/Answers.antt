-- Sixteen more are told where to look first, brought nearer, and searched.
use Rattle.std.proofs.Common.{◌+◌, ◌-◌, ◌*◌, length, slice_index, inl, inr, refl, arith}
use Rattle.hints.proofs.LookupLemmas.{positions_on, same_on, same_past, same_twice, TakesEach-on}
use Rattle.hints.proofs.LookupLemmas.{TakesEach-both, TakesEach-least, TakesEach-raise, square_some}
use Rattle.hints.proofs.ManyLemmas.{told_near, worst_most, wide_most, few_most}
use Rattle.hints.proofs.many.positions_counted.Goals as goal

pub loop-first-init : goal.loop-first-init
loop-first-init g c = record {
  within = omega arith;
  found = λ k none. absurd (omega arith);
  same = λ k outside. refl;
  worst = TakesEach-least _ _ _ (square_some _);
  near = λ order leads. TakesEach-least _ _ _ (square_some _);
}

pub loop-first-preserved : goal.loop-first-preserved
loop-first-preserved g c =
    let inv = c.loop-first.invariant in
    let keys = c.args.keys.now in
    let hints = c.args.hints.now in
    let questions = c.args.questions.now in
    let width = c.width_of-width.result in
    let first = c.loop-first.first in
    let end = first + c.min.result in
    let kept = same_twice _ _ _ _ _ c.tell.ensures.same c.approach.ensures.same in
    record {
      within = omega arith;
      found = positions_on _ _ _ _ _ _ _ inv.found kept c.search.ensures.same c.search.ensures.places;
      same = same_on _ _ _ _ _ _ (omega arith) inv.same kept c.search.ensures.same;
      worst = TakesEach-on _ first end _ _ _ (omega arith) inv.worst
          (TakesEach-both
          (2 * width) (8 * (length keys + 1)) _ (end - first) _ _ _ c.approach.ensures.cost c.search.ensures.worst
          (worst_most width (length keys) (omega (arith, c.width_of-width.ensures.within, c.len.ensures))));
      near = λ order leads.
          TakesEach-on _ first end _ _ _ (omega arith) (inv.near order leads) (elim c.width_of-width.ensures.open [
            | inl wide ↦
                let near = told_near keys hints questions _ _ first end width c.len-in-loop-first.ensures wide
                (λ k. omega (arith, c.type_inv.questions k)) leads c.tell.ensures.told in
                let exact = c.search.ensures.near order (c.approach.ensures.near order near) in
                TakesEach-both (2 * width) 4 _
                (end - first) _ _ _ c.approach.ensures.cost exact (wide_most width (slice_index hints 1) wide)
            | inr (one, few) ↦
                let most = few_most width (length keys) (slice_index hints 1) one (omega (arith, few, c.len.ensures)) in
                TakesEach-both (2 * width)
                (8 * (length keys + 1)) _ (end - first) _ _ _ c.approach.ensures.cost c.search.ensures.worst most
          ]);
    }

pub returns-clause-rest : goal.returns-clause-rest
returns-clause-rest g c = same_past _ _ _ _ (omega arith) c.loop-first.invariant.same

pub returns-clause-worst : goal.returns-clause-worst
returns-clause-worst g c = TakesEach-raise _ _ _ _ _ (omega arith) c.loop-first.invariant.worst

pub returns-clause-near : goal.returns-clause-near
returns-clause-near g c =
    λ order leads. TakesEach-raise _ _ _ _ _ (omega arith) (c.loop-first.invariant.near order leads)
