-- The text of `query`.
use Rattle.std.specs.Prelude.{◌≡◌, ℕ, Bool, true, false, List, [], ◌∷◌, map, codes, decimal}
use Rattle.exact_cross.specs.declared.segment.Segment.{Segment}
use Rattle.levels.specs.Indexes.{IsIndex}
use Rattle.levels.specs.declared.windows.LevelWindow.{LevelWindow}
use Rattle.levels.specs.Lookups.{AreWindows}
use Rattle.window_search.specs.Searches.{lb}
use Rattle.written.specs.TextLines.{text_line}
use Rattle.commands.specs.Tasks.{Bounds}
use Rattle.written.specs.InTurn.{TellsEach}

-- `find Q P`
abbrev pub find_line : (question position : ℕ) → List ℕ
find_line question position = text_line (codes "find" ∷ decimal question ∷ decimal position ∷ [])

-- `window I LOW HIGH`
abbrev pub window_line : (level low high : ℕ) → List ℕ
window_line level low high = text_line (codes "window" ∷ decimal level ∷ decimal low ∷ decimal high ∷ [])

abbrev pub window_lines : List LevelWindow → List (List ℕ)
window_lines windows = map (λ window. window_line window.level window.low window.high) windows

-- where they are asked for, the windows along the lookup in the one index of the keys, from the last level down
abbrev pub TellsWindows : List ℕ → Bounds → Bool → ℕ → List (List ℕ) → Type 0
TellsWindows keys bounds false question pieces = pieces ≡ []
TellsWindows keys bounds true question pieces =
    (levels : List (List Segment)) × IsIndex keys bounds.eps bounds.eps_rec levels
    × ((windows : List LevelWindow)
    × AreWindows keys bounds.eps bounds.eps_rec levels question windows × (pieces ≡ window_lines windows))

-- the text lines of a question: how many keys are below it, and its windows
abbrev pub TellsAnswer : List ℕ → Bounds → Bool → ℕ → List (List ℕ) → Type 0
TellsAnswer keys bounds windows question pieces = (told : List (List ℕ))
    × TellsWindows keys bounds windows question told × (pieces ≡ find_line question (lb keys question) ∷ told)

-- the questions answered, in turn
abbrev pub IsAnswered : List ℕ → Bounds → List ℕ → Bool → List (List ℕ) → Type 0
IsAnswered keys bounds questions windows pieces = TellsEach (TellsAnswer keys bounds windows) questions pieces
