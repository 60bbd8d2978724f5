-- One more key is the sum of one more draw.
use Rattle.std.proofs.Common.{◌≡◌, ◌+◌, ◌%◌, [], ◌∷◌, ◌++◌, map, ap, sym, ◌∙◌, subst, ℕ, refl, rules, arith}
use Rattle.std.specs.List.{range_with_len}
use Rattle.drill_inputs.specs.Inputs.{key_at, keys_of, sum_of_first}
use Rattle.drill_inputs.proofs.DrawLemmas.{state_after-none, drawn-here, state-next}
use Rattle.drill_inputs.proofs.ListLemmas.{made-more}
use Rattle.drill_inputs.proofs.InputLemmas.{sum-more, sum-small}
use Rattle.drill_inputs.proofs.lists.keys.Goals as goal

pub loop-place-init : goal.loop-place-init
loop-place-init c = record { keys = search rules; sum = refl; state = sym (state_after-none c.args.generator.now) }

pub overflow_add-key : goal.overflow_add-key
overflow_add-key c =
    omega (arith, c.loop-place.invariant.sum, sum-small c.args.generator.now c.loop-place._place, c.from-key.ensures)

pub loop-place-preserved : goal.loop-place-preserved
loop-place-preserved c =
    let seed = c.args.generator.now in
    let i = c.loop-place._place in
    let inv = c.loop-place.invariant in
    let draw = drawn-here seed i c.loop-place.generator c.next.result inv.state c.next.ensures.draw in
    let sum : c.loop-place.key + c.from-key.result ≡ sum_of_first seed (i + 1) =
    omega (arith, inv.sum, sum-more seed i, c.from-key.ensures, ap (λ d. d % 16) draw) in
    let pushed : c.push.new.self.items ≡ c.loop-place.keys.items
    ++ (c.loop-place.key + c.from-key.result) ∷ [] = search rules in
    record {
      keys = pushed
          ∙ made-more (key_at seed) i c.loop-place.keys.items (c.loop-place.key + c.from-key.result) inv.keys sum;
      sum = sum;
      state = state-next seed i c.loop-place.generator c.next.new.self inv.state c.next.ensures.state;
    }

pub returns-clause-keys : goal.returns-clause-keys
unfolding keys_of
returns-clause-keys c =
    let at_end : c.loop-place._place ≡ c.args.n = omega arith in
    subst (λ (n : ℕ). c.loop-place.keys.items ≡ map (key_at c.args.generator.now) (range_with_len 0 n))
    at_end c.loop-place.invariant.keys
