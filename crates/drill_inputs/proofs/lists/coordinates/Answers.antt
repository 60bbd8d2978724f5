-- One more coordinate is one more draw.
use Rattle.std.proofs.Common.{◌≡◌, ◌+◌, ◌*◌, ◌%◌, [], ◌∷◌, ◌++◌, map, ap, ◌∙◌, subst, ℕ, rules, arith}
use Rattle.std.specs.List.{range_with_len}
use Rattle.drill_inputs.specs.Draws.{state_after}
use Rattle.drill_inputs.specs.Inputs.{coordinate_at, coordinates_of}
use Rattle.drill_inputs.proofs.DrawLemmas.{drawn-here, state-next}
use Rattle.drill_inputs.proofs.ListLemmas.{made-more}
use Rattle.drill_inputs.proofs.lists.coordinates.Goals as goal

pub loop-place-preserved : goal.loop-place-preserved
loop-place-preserved c = λ seed from.
    let n = c.args.n in
    let i = c.loop-place._place in
    let inv = c.loop-place.invariant seed from in
    let draw = drawn-here seed (2 * n + i) c.loop-place.generator c.next.result inv.1 c.next.ensures.draw in
    let pushed : c.push.new.self.items ≡ c.loop-place.coordinates.items ++ (c.next.result % 256) ∷ [] = search rules in
    let next : 2 * n + i + 1 ≡ 2 * n + (i + 1) = omega arith in (
      pushed ∙ made-more
          (coordinate_at n seed) i c.loop-place.coordinates.items (c.next.result % 256) inv.0 (ap (λ d. d % 256) draw),
      subst (λ (k : ℕ). c.next.new.self ≡ state_after seed k) next
          (state-next seed (2 * n + i) c.loop-place.generator c.next.new.self inv.1 c.next.ensures.state),
    )

pub returns-clause-coordinates : goal.returns-clause-coordinates
unfolding coordinates_of
returns-clause-coordinates c = λ seed from.
    let at_end : c.loop-place._place ≡ 2 * c.args.n = omega arith in
    subst (λ (m : ℕ). c.loop-place.coordinates.items ≡ map (coordinate_at c.args.n seed) (range_with_len 0 m)) at_end
    (c.loop-place.invariant seed from).0
