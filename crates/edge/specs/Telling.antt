-- What a fake tells and the real thing doesn't.
use Rattle.std.specs.Prelude.{◌≡◌, Option, is_some}

-- what was told goes on being told, and what was not told goes on not to be
abbrev pub TellsAsBefore : {T : Type 0} → Option T → Option T → Type 0
TellsAsBefore before after = is_some after ≡ is_some before
