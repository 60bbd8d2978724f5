-- The rule of a history's book, and what its steps tell. No public clause cites it.
use Rattle.std.specs.Prelude.{◌≡◌, ◌==◌, ℕ, true, List, [], ◌∷◌, ◌++◌, MatchBool}
use Rattle.logbook.specs.Pages.{Cell, Step, View, Book, Named}
use Rattle.log_levels.specs.declared.update.Update.{Update}
use Rattle.published.specs.Histories.{count_of, AreFilled}

-- The first word is the number of published updates, and no batch is
-- empty. A book has two words, of which this one leaves the second at 0
pub record IsKept (cells : List Cell) (log : List (List Update)) : Type 0 where
  pub words : cells ≡ (count_of log, true) ∷ (0, true) ∷ []
  pub filled : AreFilled log

abbrev pub head_of : Book → Named
head_of book = record { tracked = true; key = 0; book = book }

-- where the word was the one expected, the batch was added to all
-- that had been seen; else the word is the length of what is seen now
abbrev pub Adds : Step (List Update) → View (List Update) ℕ → ℕ → View (List Update) ℕ → Type 0
Adds s v found w =
    MatchBool (found == s.old) ((w.0 ≡ v.0 ++ s.ask ∷ []) × AreFilled w.0) ((count_of w.0 ≡ found) × AreFilled w.0)
