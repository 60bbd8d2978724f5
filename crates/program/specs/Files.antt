-- Files by their names, where a shelf tells them.
use Rattle.std.specs.Prelude.{◌≡◌, ◌≢◌, ℕ, List, Option, Some, None, IfSome}
use Rattle.key_points.specs.Falls.{AreKeys}
use Rattle.zorder.specs.Points.{ArePoints}
use Rattle.sosd_reader.specs.declared.fault.KeyFault.{KeyFault}
use Rattle.sosd_reader.specs.declared.fault.KeyFault.TheVariants.{Unsorted, Wide}
use Rattle.sosd_reader.specs.NumberFiles.{Kind}
use Rattle.sosd_reader.specs.NumberFiles.Kind.{of_keys, of_points}

-- the contents of each file by its name, where they are told
abbrev pub Files : Type 0
Files = Option (List ℕ → Option (List ℕ))

-- the file of this name, where files are told, is there, and this holds of its bytes
abbrev pub HoldsOfFile : Files → List ℕ → (List ℕ → Type 0) → Type 0
HoldsOfFile files name P = IfSome files (λ contents. (bytes : List ℕ) × (contents name ≡ Some bytes) × P bytes)

-- files are told, and none has this name
abbrev pub IsMissing : Files → List ℕ → Type 0
IsMissing files name = (contents : List ℕ → Option (List ℕ)) × (files ≡ Some contents) × (contents name ≡ None)

-- a file is read first, and none has its name
abbrev pub IsFirstMissing : Files → Option (List ℕ) → Type 0
IsFirstMissing files None = ⊥
IsFirstMissing files (Some name) = IsMissing files name

-- what is read of a file of this kind, told or not
abbrev pub IsReadable : Kind → List ℕ → Type 0
IsReadable (of_keys width) keys = AreKeys keys
IsReadable (of_points d) coords = ArePoints d coords

-- a fault that a file of this kind can have, told or not
abbrev pub IsFaultOf : Kind → KeyFault → Type 0
IsFaultOf (of_keys width) fault = (at value : ℕ) → fault ≢ Wide at value
IsFaultOf (of_points d) fault = (at before key : ℕ) → fault ≢ Unsorted at before key
