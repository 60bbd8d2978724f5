-- Counts of faults.
use Rattle.std.specs.Prelude.{◌≡◌, ◌⊎◌, ℕ, ◌<◌}

-- the count rose, or it stands at its last value
abbrev pub HasRisen : ℕ → ℕ → Type 0
HasRisen before after = (before < after) ⊎ (after ≡ 18446744073709551615)

-- the count stays quiet: it neither rose nor stands at its last value
abbrev pub StaysQuiet : ℕ → ℕ → Type 0
StaysQuiet before after = HasRisen before after → ⊥
