-- Questions answered one after the other.
--
-- Main results: the answer to a question behind others (`each_more`),
-- answers behind answers (`each_append`), that questions
-- which each have an answer are answered (`some_each`), and that
-- there is one text where each question has one (`one_each`).
use Rattle.std.proofs.Common.{◌≡◌, ℕ, List, [], ◌∷◌, ◌++◌, refl, sym, ap, subst, ◌∙◌, append_assoc}
use Rattle.std.specs.Prelude.{All}
use Rattle.std.proofs.lemmas.List.{append-nil}
use Rattle.std.proofs.lemmas.List.Elements.{All-head, All-tail}
use Rattle.written.specs.InTurn.{TellsEach}

module _ {A : Type 0} (Tells : A → List (List ℕ) → Type 0) where
  pub each_append : (questions later : List A) (pieces others : List (List ℕ)) →
      TellsEach Tells questions pieces → TellsEach Tells later others →
      TellsEach Tells (questions ++ later) (pieces ++ others)
  each_append [] later pieces others none more =
      subst (λ (p : List (List ℕ)). TellsEach Tells later (p ++ others)) (sym none) more
  each_append (question ∷ questions) later pieces others (first, rest, told, tells, is) more = (
    first,
    rest ++ others,
    told,
    each_append questions later rest others tells more,
    ap (λ (p : List (List ℕ)). p ++ others) is ∙ append_assoc first rest others,
  )

  pub each_more : (questions : List A) (question : A) (pieces first : List (List ℕ)) →
      TellsEach Tells questions pieces → Tells question first →
      TellsEach Tells (questions ++ question ∷ []) (pieces ++ first)
  each_more questions question pieces first told one =
      each_append questions (question ∷ []) pieces first told (first, [], one, refl, sym (append-nil first))

  abbrev Has : A → Type 0
  Has question = (pieces : List (List ℕ)) × Tells question pieces

  pub some_each : (questions : List A) → All Has questions →
      (pieces : List (List ℕ)) × TellsEach Tells questions pieces
  some_each [] each = ([], refl)
  some_each (question ∷ questions) each =
      let first : (pieces : List (List ℕ)) × Tells question pieces = All-head Has question questions each in
      let others = some_each questions (All-tail Has question questions each) in
      (first.0 ++ others.0, (first.0, others.0, first.1, others.1, refl))

  pub one_each :
      ((question : A) (pieces others : List (List ℕ)) → Tells question pieces → Tells question others → pieces ≡ others)
      →
      (questions : List A) (pieces others : List (List ℕ)) →
      TellsEach Tells questions pieces → TellsEach Tells questions others → pieces ≡ others
  one_each one [] pieces others none nothing = none ∙ sym nothing
  one_each one (question ∷ questions) pieces others (first, rest, told, tells, is) (first', rest', told', tells', is') =
      let same = one question first first' told told' in
      let later = one_each one questions rest rest' tells tells' in
      is ∙ ap (λ (p : List (List ℕ)). p ++ rest) same ∙ ap (λ (p : List (List ℕ)). first' ++ p) later ∙ sym is'
