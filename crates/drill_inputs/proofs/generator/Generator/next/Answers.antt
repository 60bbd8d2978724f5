-- The multiplication and the sum are those of the definition.
use Rattle.std.proofs.Common.{◌/◌, ap, sym, ◌∙◌}
use Rattle.drill_inputs.specs.Draws.{next_state}
use Rattle.drill_inputs.proofs.DrawLemmas.{drawn-first, state_after-one}
use Rattle.drill_inputs.proofs.generator.Generator.next.Goals as goal

pub returns-clause-draw : goal.returns-clause-draw
returns-clause-draw c =
    ap (λ s. next_state s / 65536) (c.from-product.ensures ∙ c.self.view_is) ∙ sym (drawn-first c.args.self.now)

pub returns-clause-state : goal.returns-clause-state
returns-clause-state c = ap next_state (c.from-product.ensures ∙ c.self.view_is) ∙ sym (state_after-one c.args.self.now)
