-- Reading on, where a shelf tells its bytes.
use Rattle.std.specs.Prelude.{◌≡◌, ℕ, ◌<◌, List, [], ◌++◌, length, take, Option, None, IfSome}
use Rattle.std.specs.Option.{IsSomeAnd, option_to_list}

-- this piece was what came next, and the bytes after it are left
abbrev pub HasRead : Option (List ℕ) → List ℕ → Option (List ℕ) → Type 0
HasRead before piece after = IfSome before (λ bytes. IsSomeAnd after (λ left. bytes ≡ piece ++ left))

-- the front of the buffer holds the next n bytes, which are all that there were where n is less than its room
pub record Fills (before : Option (List ℕ)) (n : ℕ) (buf : List ℕ) (after : Option (List ℕ)) : Type 0 where
  pub read : HasRead before (take n buf) after
  pub ended : n < length buf → IfSome before (λ bytes. bytes ≡ take n buf)

-- the next byte, or none at the end of the bytes
pub record GivesByte (byte : Option ℕ) (before after : Option (List ℕ)) : Type 0 where
  pub next : HasRead before (option_to_list byte) after
  pub ended : byte ≡ None → IfSome before (λ bytes. bytes ≡ [])

-- all the bytes that there were
pub record GivesAll (all : List ℕ) (before after : Option (List ℕ)) : Type 0 where
  pub read : HasRead before all after
  pub ended : IfSome before (λ bytes. bytes ≡ all)
