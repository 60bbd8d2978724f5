-- Updates cut into batches.
use Rattle.std.specs.Prelude.{◌≡◌, ◌≤◌, ◌<◌, ◌∷◌, [], ℕ, List, length, ⊤}
use Rattle.log_levels.specs.declared.update.Update.{Update}

-- batches of one size, of which the last may be shorter
abbrev pub AreBatches : ℕ → List (List Update) → Type 0
AreBatches size [] = ⊤
AreBatches size (batch ∷ []) = (0 < length batch) × (length batch ≤ size)
AreBatches size (batch ∷ next ∷ later) = (length batch ≡ size) × AreBatches size (next ∷ later)

-- batches that all have this size
abbrev pub AreFull : ℕ → List (List Update) → Type 0
AreFull size [] = ⊤
AreFull size (batch ∷ later) = (length batch ≡ size) × AreFull size later
