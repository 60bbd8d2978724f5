-- One more question is one more draw.
use Rattle.std.proofs.Common.{◌≡◌, ◌+◌, ◌*◌, ◌%◌, [], ◌∷◌, ◌++◌, map, ap, ◌∙◌, subst, ℕ, rules, arith}
use Rattle.std.specs.List.{range_with_len}
use Rattle.drill_inputs.specs.Draws.{state_after}
use Rattle.drill_inputs.specs.Inputs.{find_at, finds_of}
use Rattle.drill_inputs.proofs.DrawLemmas.{drawn-here, state-next}
use Rattle.drill_inputs.proofs.ListLemmas.{made-more}
use Rattle.drill_inputs.proofs.lists.finds.Goals as goal

pub loop-place-preserved : goal.loop-place-preserved
loop-place-preserved c = λ seed from.
    let n = c.args.n in
    let i = c.loop-place._place in
    let inv = c.loop-place.invariant seed from in
    let draw = drawn-here seed (n + i) c.loop-place.generator c.next.result inv.1 c.next.ensures.draw in
    let pushed : c.push.new.self.items ≡ c.loop-place.finds.items ++ c.from.result ∷ [] = search rules in
    let next : n + i + 1 ≡ n + (i + 1) = omega arith in (
      pushed ∙ made-more (find_at n seed) i c.loop-place.finds.items c.from.result inv.0
          (c.from.ensures ∙ ap (λ d. d % (16 * n)) draw),
      subst (λ (k : ℕ). c.next.new.self ≡ state_after seed k) next
          (state-next seed (n + i) c.loop-place.generator c.next.new.self inv.1 c.next.ensures.state),
    )

pub returns-clause-finds : goal.returns-clause-finds
unfolding finds_of
returns-clause-finds c = λ seed from.
    let at_end : c.loop-place._place ≡ c.args.n = omega arith in
    subst (λ (m : ℕ). c.loop-place.finds.items ≡ map (find_at c.args.n seed) (range_with_len 0 m)) at_end
    (c.loop-place.invariant seed from).0
