-- What the calls of a shelf do, where it tells its contents.
use Rattle.std.specs.Prelude.{◌≡◌, ℕ, ◌<◌, ◌≤◌, List, [], length, take, drop, Option, Some, IfSome, IsSome}

-- the file is there, and all of it is left to read
abbrev pub TakesFile : Option (List ℕ → Option (List ℕ)) → List ℕ → Option (List ℕ) → Type 0
TakesFile files name rest = IfSome files (λ contents. IsSome (contents name) × (rest ≡ contents name))

-- n bytes of what was left stand in the front of the buffer, and the others are left
pub record ReadsBytes (bytes : List ℕ) (room n : ℕ) (buf : List ℕ) (rest : Option (List ℕ)) : Type 0 where
  pub there : n ≤ length bytes
  pub read : take n buf ≡ take n bytes
  pub left : rest ≡ Some (drop n bytes)
  pub goes_on : 0 < room → 0 < length bytes → 0 < n

abbrev pub ReadsNext : Option (List ℕ) → ℕ → ℕ → List ℕ → Option (List ℕ) → Type 0
ReadsNext before room n buf rest = IfSome before (λ bytes. ReadsBytes bytes room n buf rest)

-- of what was left at most this many bytes are gone, from the front, and the others are left
abbrev pub TakesAtMost : ℕ → Option (List ℕ) → Option (List ℕ) → Type 0
TakesAtMost most before after = IfSome before (λ bytes. (n : ℕ) × (n ≤ most) × (after ≡ Some (drop n bytes)))

-- all that was left is gone
abbrev pub IsEmptied : Option (List ℕ) → Option (List ℕ) → Type 0
IsEmptied before after = IfSome before (λ _. after ≡ Some [])

-- nothing is left to read
abbrev pub HasNothingLeft : Option (List ℕ) → Type 0
HasNothingLeft rest = IfSome rest (λ bytes. bytes ≡ [])
