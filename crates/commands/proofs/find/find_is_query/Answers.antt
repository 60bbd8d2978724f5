-- The windows of a question are none where they aren't asked for.
use Rattle.std.proofs.Common.{◌≡◌, ◌∙◌, ◌∷◌, ◌++◌, [], ℕ, false, List, ap, ap₂, refl}
use Rattle.window_search.specs.Searches.{lb}
use Rattle.commands.specs.Tasks.{Bounds}
use Rattle.commands.specs.Texts.Find.{IsFound, found_lines}
use Rattle.commands.specs.Texts.Query.{IsAnswered, find_line}
use Rattle.commands.proofs.find.find_is_query.Goals as goal

module _ (keys : List ℕ) (bounds : Bounds) where
  answered : (questions : List ℕ) (pieces : List (List ℕ)) →
      IsFound keys questions pieces → IsAnswered keys bounds questions false pieces
  answered [] pieces is = is
  answered (question ∷ questions) pieces is = (
    find_line question (lb keys question) ∷ [],
    found_lines keys questions,
    ([], refl, refl),
    answered questions (found_lines keys questions) refl,
    is,
  )

  found : (questions : List ℕ) (pieces : List (List ℕ)) →
      IsAnswered keys bounds questions false pieces → IsFound keys questions pieces
  found [] pieces is = is
  found (question ∷ questions) pieces (first, others, (told, none, one), rest, is) =
      is ∙ ap₂ (λ (a b : List (List ℕ)). a ++ b)
      (one ∙ ap (λ (t : List (List ℕ)). find_line question (lb keys question) ∷ t) none)
      (found questions others rest)

pub returns-clause-query : goal.returns-clause-query
returns-clause-query c = λ keys questions bounds. answered keys bounds questions

pub returns-clause-find : goal.returns-clause-find
returns-clause-find c = λ keys questions bounds. found keys bounds questions
