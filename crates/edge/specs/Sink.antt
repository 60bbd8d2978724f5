-- What the calls of a sink do, where it tells its bytes.
use Rattle.std.specs.Prelude.{◌≡◌, ℕ, List, ◌++◌, take, Option, Some, IfSome}

-- the first n bytes of the piece were added
abbrev pub TakesPart : Option (List ℕ) → List ℕ → ℕ → Option (List ℕ) → Type 0
TakesPart before piece n after = IfSome before (λ bytes. after ≡ Some (bytes ++ take n piece))
