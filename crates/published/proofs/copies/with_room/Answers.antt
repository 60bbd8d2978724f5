use Rattle.std.proofs.Common.{◌≡◌, drop, false, Result, Ok, Err, MatchResult, refl, sym, subst, ◌∙◌}
use Rattle.std.specs.Result.{is_err}
use Rattle.published.specs.Histories.{Front}
use Rattle.published.specs.Rules.{IsLastOf, GoesOn}
use Rattle.published.proofs.OnlyGrows.{sees, goes_on_self, is_last}
use Rattle.published.proofs.copies.with_room.Goals as goal

of_ok : {A B : Type 0} (r : Result A B) (P : Type 0) (Q : B → Type 0) → is_err r ≡ false → MatchResult r (λ _. P) Q → P
of_ok (Ok x) P Q e m = m
of_ok (Err x) P Q e m = absurd (cc e)

pub publish_as-requires : goal.publish_as-requires
publish_as-requires g c = λ next is.
    let now = c.append.new.self.desk.shown.value in
    let ends : IsLastOf (drop c.append.new.self.behind c.append.new.self.log.items) c.args.version = (
      drop c.args.copies.behind c.args.copies.log.items,
      of_ok c.append.result _ _ (sym c.is_err.ensures.value ∙ c.if-is_err.false) c.append.ensures.pending,
    ) in
    let desk : now ≡ c.args.copies.desk.shown.value = cc (c.append.ensures.desk) in
    let same : now ≡ next = sym (is ∙ (is_last now _ _ c.args.version refl ends ∙ (c.requires.same ∙ sym desk))) in
    sees _ _ now next (subst (λ (f : Front). GoesOn now f) same (goes_on_self now))

pub returns-in_default-Ok-clause-shown : goal.returns-in_default-Ok-clause-shown
returns-in_default-Ok-clause-shown g c =
    let ends : IsLastOf (drop c.append.new.self.behind c.append.new.self.log.items) c.args.version = (
      drop c.args.copies.behind c.args.copies.log.items,
      of_ok c.append.result _ _ (sym c.is_err.ensures.value ∙ c.if-is_err.false) c.append.ensures.pending,
    ) in
    let shown = rw c.in_default-Ok.is-1 at c.publish_as.ensures.values in
    shown.0 ∙ is_last c.append.new.self.desk.shown.value _ _ c.args.version refl ends
