-- That any questions have text lines that answer them.
use Rattle.std.proofs.Common.{ℕ, List, Option, Some, None, [], ◌∷◌, get_or, refl}
use Rattle.std.specs.Prelude.{is_some, IfSome}
use Rattle.std.proofs.lemmas.List.Elements.{All-from_get_or}
use Rattle.window_search.specs.Searches.{lb}
use Rattle.levels.specs.Indexes.{PgmIndex}
use Rattle.levels.proofs.CallerLemmas.{AreWindows-some}
use Rattle.commands.specs.Finders.{IsSortedIndexOf}
use Rattle.commands.specs.Tasks.{Bounds}
use Rattle.commands.specs.Texts.Query.{TellsWindows, TellsAnswer, IsAnswered, find_line, window_lines}
use Rattle.written.proofs.InTurnLemmas.{some_each}

module _ {A : Type 0} (index_of : A → PgmIndex) (keys : List ℕ) (bounds : Bounds) where
  -- the windows of the index, where there is one to tell them
  some_windows : (told : Option A) (question : ℕ) →
      IfSome told (λ index. IsSortedIndexOf keys bounds (index_of index)) →
      (pieces : List (List ℕ)) × TellsWindows keys bounds (is_some told) question pieces
  some_windows None question there = ([], refl)
  some_windows (Some index) question there =
      let found = AreWindows-some keys bounds.eps bounds.eps_rec
      (index_of index).levels there.never_falls there.of.levels question in
      (window_lines found.0, ((index_of index).levels, there.of.levels, (found.0, found.1, refl)))

  some_answer : (told : Option A) (question : ℕ) → IfSome told (λ index. IsSortedIndexOf keys bounds (index_of index)) →
      (pieces : List (List ℕ)) × TellsAnswer keys bounds (is_some told) question pieces
  some_answer told question there =
      let windows = some_windows told question there in
      (find_line question (lb keys question) ∷ windows.0, (windows.0, windows.1, refl))

  pub some_answers : (told : Option A) (questions : List ℕ) →
      IfSome told (λ index. IsSortedIndexOf keys bounds (index_of index)) →
      (pieces : List (List ℕ)) × IsAnswered keys bounds questions (is_some told) pieces
  some_answers told questions there =
      let Has : ℕ → Type 0 = λ question. (pieces : List (List ℕ))
      × TellsAnswer keys bounds (is_some told) question pieces in
      some_each (TellsAnswer keys bounds (is_some told)) questions
      (All-from_get_or Has questions 0 (λ i there_is. some_answer told (get_or questions i 0) there))
