-- The text of `check`.
use Rattle.std.specs.Prelude.{◌≡◌, ℕ, List, [], ◌∷◌, codes, decimal}
use Rattle.written.specs.TextLines.{text_line}

-- `check levels L runs R`
abbrev pub check_line : ℕ → ℕ → List ℕ
check_line levels runs = text_line (codes "check" ∷ codes "levels" ∷ decimal levels ∷ codes "runs" ∷ decimal runs ∷ [])

-- how many levels and runs a saved index has that was found right
abbrev pub IsChecked : ℕ → ℕ → List (List ℕ) → Type 0
IsChecked levels runs pieces = pieces ≡ check_line levels runs ∷ []
