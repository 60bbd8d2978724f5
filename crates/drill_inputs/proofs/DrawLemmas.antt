-- What one more draw does.
use Rattle.std.proofs.Common.{◌≡◌, ℕ, ◌+◌, ◌/◌, refl, ap, sym, ◌∙◌, add-one}
use Rattle.drill_inputs.specs.Draws.{next_state, state_after, drawn}

pub state_after-none : (seed : ℕ) → state_after seed 0 ≡ seed
unfolding state_after
state_after-none seed = refl

pub state_after-one : (seed : ℕ) → state_after seed 1 ≡ next_state seed
unfolding state_after
state_after-one seed = refl

state_after-more : (seed i : ℕ) → state_after seed (i + 1) ≡ next_state (state_after seed i)
unfolding state_after
state_after-more seed i = ap (state_after seed) (add-one i)

pub drawn-first : (seed : ℕ) → drawn seed 0 ≡ next_state seed / 65536
unfolding drawn
drawn-first seed = ap (λ s. s / 65536) (state_after-one seed)

-- the first draw from the state after i draws is draw i
drawn-after : (seed i : ℕ) → drawn (state_after seed i) 0 ≡ drawn seed i
unfolding drawn
drawn-after seed i = ap (λ s. s / 65536) (state_after-one (state_after seed i) ∙ sym (state_after-more seed i))

-- what a generator draws after i draws
pub drawn-here : (seed i state draw : ℕ) → state ≡ state_after seed i → draw ≡ drawn state 0 → draw ≡ drawn seed i
drawn-here seed i state draw here is = is ∙ ap (λ s. drawn s 0) here ∙ drawn-after seed i

-- and its state then
pub state-next : (seed i state next : ℕ) →
    state ≡ state_after seed i → next ≡ state_after state 1 → next ≡ state_after seed (i + 1)
state-next seed i state next here is =
    is ∙ ap (λ s. state_after s 1) here ∙ state_after-one (state_after seed i) ∙ sym (state_after-more seed i)
