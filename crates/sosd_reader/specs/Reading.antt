-- What a step of a reader does, where the shelf tells its bytes.
use Rattle.std.specs.Prelude.{◌≡◌, ℕ, ◌<◌, ◌≤◌, ◌+◌, ◌-◌, ◌*◌, ◌^◌, List, [], ◌∷◌, ◌++◌}
use Rattle.std.specs.Prelude.{length, All, slice_index, Option, IfSome, Result, Err}
use Rattle.std.specs.List.{flat_map}
use Rattle.byteorder.specs.Endian.{little_bytes}
use Rattle.edge.specs.Reading.{HasRead}
use Rattle.edge.specs.Readers.{Origin, Reads}
use Rattle.edge.specs.Readers.Origin.{of_shelf, of_memory, of_bytes, of_none}
use Rattle.edge.specs.Shelf.{TakesAtMost}
use Rattle.edge.specs.declared.shelf.Shelf.{Ghosts}
use Rattle.sosd_reader.specs.declared.fault.KeyFault.{KeyFault}
use Rattle.sosd_reader.specs.declared.fault.KeyFault.TheVariants.{ReadFault, TooMany, Short}
use Rattle.sosd_reader.specs.declared.fault.KeyFault.TheVariants.{Unsorted, Trailing, Wide, NoMemory}
use Rattle.sosd_reader.specs.FileFaults.{ReadsAsFile, reach_of}
use Rattle.sosd_reader.specs.NumberFiles.{Kind, IsOfKeys, IsOfPoints, number_width, AllFollow, Fails, IsFileOf}
use Rattle.sosd_reader.specs.NumberFiles.Kind.{of_keys, of_points}

-- the list went on by numbers that stand at the front of these bytes, of which fewer than a number's are over
pub record GoesOn (width : ℕ) (front bytes list : List ℕ) : Type 0 where
  pub numbers : List ℕ
  pub over : List ℕ
  pub added : list ≡ front ++ numbers
  pub stand : bytes ≡ flat_map (little_bytes width) numbers ++ over
  pub each_fits : All (λ number. number < 256 ^ width) numbers
  pub whole : length over < width

-- the list goes on at the front of these bytes by numbers that may
-- follow and by the number `at`, the first that may not, among n more
pub record FailsNext (kind : Kind) (n : ℕ) (front bytes : List ℕ) (at before number : ℕ) : Type 0 where
  pub numbers : List ℕ
  pub over : List ℕ
  pub stand : bytes ≡ flat_map (little_bytes (number_width kind)) (numbers ++ number ∷ []) ++ over
  pub each_fits : All (λ each. each < 256 ^ number_width kind) (numbers ++ number ∷ [])
  pub all_follow : AllFollow kind (front ++ numbers)
  pub place : at ≡ length (front ++ numbers)
  pub before_is : before ≡ slice_index ((front ++ numbers) ++ number ∷ []) (at - 1)
  pub fails : Fails kind before number
  pub within : at < length front + n

-- the list goes on by these bytes and all its numbers may follow, but
-- n more of them would take more bytes, and the file has `got` in all
pub record EndsEarly (kind : Kind) (n : ℕ) (front bytes : List ℕ) (got : ℕ) : Type 0 where
  pub list : List ℕ
  pub goes_on : GoesOn (number_width kind) front bytes list
  pub all_follow : AllFollow kind list
  pub ends : length bytes < number_width kind * n
  pub all : got ≡ 8 + number_width kind * length front + length bytes

-- the fault that these bytes have where n more numbers are to follow on those in front
abbrev pub StopsAs : Kind → ℕ → List ℕ → List ℕ → KeyFault → Type 0
StopsAs kind n front bytes (Unsorted at before key) = IsOfKeys kind × FailsNext kind n front bytes at before key
StopsAs kind n front bytes (Wide at value) =
    IsOfPoints kind × ((before : ℕ) × FailsNext kind n front bytes at before value)
StopsAs kind n front bytes (Short got) = EndsEarly kind n front bytes got
StopsAs kind n front bytes _ = ⊥

-- the list went on by numbers, whose bytes came next
pub record ReadsNumbers (width : ℕ) (front list : List ℕ) (before after : Option (List ℕ)) : Type 0 where
  pub numbers : List ℕ
  pub added : list ≡ front ++ numbers
  pub each_fits : All (λ number. number < 256 ^ width) numbers
  pub read : HasRead before (flat_map (little_bytes width) numbers) after

-- the bytes have a fault that only one kind of file has
abbrev pub of_keys_only : Kind → Origin
of_keys_only (of_keys width) = of_bytes
of_keys_only (of_points d) = of_none

abbrev pub of_points_only : Kind → Origin
of_points_only (of_keys width) = of_none
of_points_only (of_points d) = of_bytes

-- where each fault comes from; a file of one kind never has the fault of the other
abbrev pub origin_of : Kind → KeyFault → Origin
origin_of kind ReadFault = of_shelf
origin_of kind NoMemory = of_memory
origin_of kind (TooMany count) = of_bytes
origin_of kind (Short got) = of_bytes
origin_of kind (Unsorted at before key) = of_keys_only kind
origin_of kind (Trailing byte) = of_bytes
origin_of kind (Wide at value) = of_points_only kind

-- the bytes have the fault as a file of this kind
abbrev pub FailsAsFile : Kind → List ℕ → KeyFault → Type 0
FailsAsFile kind bytes fault = ReadsAsFile kind bytes (Err fault)

-- the bytes that were taken are no more than are read of those that were left
abbrev pub IsWithinReach : Kind → Option (List ℕ) → List ℕ → KeyFault → Type 0
IsWithinReach kind before taken fault = IfSome before (λ bytes. length taken ≤ reach_of kind bytes)

-- the bytes that were left are the file of these numbers, and no more than are read of them are gone
pub record GivesFile (kind : Kind) (numbers : List ℕ) (before after : Option (List ℕ)) : Type 0 where
  pub file : IfSome before (IsFileOf kind numbers)
  pub taken : IfSome before (λ bytes. TakesAtMost (reach_of kind bytes) before after)

-- a call that reads a file of this kind
abbrev pub ReadsFile : {S T : Type 0} → Ghosts S → Kind → (T → List ℕ) → S → Result T KeyFault → S → Type 0
ReadsFile shelf kind numbers_of old result new = Reads shelf (origin_of kind)
    (λ value. GivesFile kind (numbers_of value)) (FailsAsFile kind) (IsWithinReach kind (shelf.rest old)) old result new
