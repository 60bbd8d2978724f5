-- Key files (SOSD; Kipf et al., 2019).
use Rattle.std.specs.Prelude.{ℕ, Bool, if◌then◌else◌}

-- how many bytes a key has: 8 where keys are wide, else 4
abbrev pub key_width : Bool → ℕ
key_width wide = if wide then 8 else 4
