use Rattle.std.proofs.Common.{◌≡◌, sym, ◌∙◌, subst}
use Rattle.published.specs.Histories.{Front}
use Rattle.published.specs.Rules.{GoesOn}
use Rattle.published.proofs.OnlyGrows.{sees, is_last}
use Rattle.published.proofs.copies.turned.Goals as goal

pub publish_as-requires : goal.publish_as-requires
publish_as-requires g c = λ next is.
    let last = c.requires.some in
    let inv = c.loop-turn.invariant in
    let now = c.loop-turn.copies.desk.shown.value in
    let same : last.0 ≡ next = sym (is ∙ is_last now _ _ last.0 inv.queue last.1) in
    let from :
    GoesOn now last.0 = subst (λ (f : Front). GoesOn f last.0) (sym inv.shown) (c.requires.more last.0 last.1) in
    sees _ _ now next (subst (λ (f : Front). GoesOn now f) same from)

pub returns-in_default-Ok-clause-shown : goal.returns-in_default-Ok-clause-shown
returns-in_default-Ok-clause-shown g c = λ last ends.
    let shown = rw c.in_default-Ok.is-1 at c.publish_as.ensures.values in
    shown.0 ∙ is_last c.loop-turn.copies.desk.shown.value _ _ last c.loop-turn.invariant.queue ends
