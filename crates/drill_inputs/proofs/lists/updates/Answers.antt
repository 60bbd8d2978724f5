-- One more update is two more draws.
use Rattle.std.proofs.Common.{◌≡◌, ◌+◌, ◌*◌, ◌%◌, [], ◌∷◌, ◌++◌, map, ap, ◌∙◌, subst, ℕ, rules, arith}
use Rattle.std.specs.List.{range_with_len}
use Rattle.drill_inputs.specs.Draws.{state_after}
use Rattle.drill_inputs.specs.Inputs.{update_by, update_at, updates_of}
use Rattle.drill_inputs.proofs.DrawLemmas.{drawn-here, state-next}
use Rattle.drill_inputs.proofs.ListLemmas.{made-more}
use Rattle.drill_inputs.proofs.lists.updates.Goals as goal

pub loop-place-preserved : goal.loop-place-preserved
loop-place-preserved c = λ seed from.
    let n = c.args.n in
    let i = c.loop-place._place in
    let at = 4 * n + 2 * i in
    let inv = c.loop-place.invariant seed from in
    let first = drawn-here seed at c.loop-place.generator c.next.result inv.1 c.next.ensures.draw in
    let between = state-next seed at c.loop-place.generator c.next.new.self inv.1 c.next.ensures.state in
    let second = drawn-here seed (at + 1) c.next.new.self c.next-draw.result between c.next-draw.ensures.draw in
    let key = c.from.ensures ∙ ap (λ d. d % n) first in
    let draw = c.from-in-loop-place.ensures ∙ second in
    let item = c.update_by.ensures ∙ ap (λ k. update_by k c.from-in-loop-place.result) key ∙ ap (update_by _) draw in
    let pushed : c.push.new.self.items ≡ c.loop-place.updates.items ++ c.update_by.result ∷ [] = search rules in
    let next : at + 1 + 1 ≡ 4 * n + 2 * (i + 1) = omega arith in (
      pushed ∙ made-more (update_at n seed) i c.loop-place.updates.items c.update_by.result inv.0 item,
      subst (λ (k : ℕ). c.next-draw.new.self ≡ state_after seed k) next
          (state-next seed (at + 1) c.next.new.self c.next-draw.new.self between c.next-draw.ensures.state),
    )

pub returns : goal.returns
unfolding updates_of
returns c = λ seed from.
    let at_end : c.loop-place._place ≡ c.args.n = omega arith in
    subst (λ (m : ℕ). c.loop-place.updates.items ≡ map (update_at c.args.n seed) (range_with_len 0 m)) at_end
    (c.loop-place.invariant seed from).0
