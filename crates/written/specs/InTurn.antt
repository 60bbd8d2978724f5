-- Questions answered one after the other.
use Rattle.std.specs.Prelude.{◌≡◌, ℕ, List, [], ◌∷◌, ◌++◌}

-- the text lines of each question in turn, where those of one are told by `Tells`
abbrev pub TellsEach : {A : Type 0} → (A → List (List ℕ) → Type 0) → List A → List (List ℕ) → Type 0
TellsEach Tells [] pieces = pieces ≡ []
TellsEach Tells (question ∷ later) pieces = (first others : List (List ℕ))
    × Tells question first × TellsEach Tells later others × (pieces ≡ first ++ others)
