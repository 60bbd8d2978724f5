-- The text of `find`.
use Rattle.std.specs.Prelude.{◌≡◌, ℕ, List, map}
use Rattle.window_search.specs.Searches.{lb}
use Rattle.commands.specs.Texts.Query.{find_line}

-- the text line of each question: how many keys are below it
abbrev pub found_lines : (keys questions : List ℕ) → List (List ℕ)
found_lines keys questions = map (λ question. find_line question (lb keys question)) questions

-- the questions answered, in turn
abbrev pub IsFound : (keys questions : List ℕ) → List (List ℕ) → Type 0
IsFound keys questions pieces = pieces ≡ found_lines keys questions
