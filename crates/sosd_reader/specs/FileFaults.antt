-- The one reading of any bytes as a file of a kind: its numbers, or the first fault in the order of the bytes.
use Rattle.std.specs.Prelude.{◌≡◌, ◌⊎◌, ℕ, ◌<◌, ◌≤◌, ◌+◌, ◌-◌, ◌*◌, ◌^◌, nat_lt, if◌then◌else◌}
use Rattle.std.specs.Prelude.{List, length, drop, slice_index, All, Result, Ok, Err}
use Rattle.byteorder.specs.Endian.{little_number}
use Rattle.sosd_reader.specs.declared.fault.KeyFault.{KeyFault}
use Rattle.sosd_reader.specs.declared.fault.KeyFault.TheVariants.{ReadFault, TooMany, Short}
use Rattle.sosd_reader.specs.declared.fault.KeyFault.TheVariants.{Unsorted, Trailing, Wide, NoMemory}
use Rattle.sosd_reader.specs.NumberFiles.{Kind, IsOfKeys, IsOfPoints, number_width}
use Rattle.sosd_reader.specs.NumberFiles.{numbers_each, Follows, Fails, IsFileOf}

-- the count that the first eight bytes say
abbrev pub count_in : List ℕ → ℕ
count_in bytes = little_number 8 bytes

-- how many numbers are to follow on it
abbrev pub numbers_said : Kind → List ℕ → ℕ
numbers_said kind bytes = numbers_each kind * count_in bytes

-- the number in this place, counted from 0
abbrev pub number_in : Kind → List ℕ → ℕ → ℕ
number_in kind bytes j = little_number (number_width kind) (drop (8 + number_width kind * j) bytes)

-- that number stands whole in the bytes
abbrev pub IsWhole : Kind → List ℕ → ℕ → Type 0
IsWhole kind bytes j = 8 + number_width kind * (j + 1) ≤ length bytes

-- of the numbers below n that are whole, each may stand after the one before it
abbrev pub NoneFails : Kind → List ℕ → ℕ → Type 0
NoneFails kind bytes n =
    (j : ℕ) → j < n → IsWhole kind bytes j → Follows kind (number_in kind bytes (j - 1)) (number_in kind bytes j)

-- the count is there, and is one that a file may have
pub record HasCount (bytes : List ℕ) : Type 0 where
  pub whole : 8 ≤ length bytes
  pub few : count_in bytes < 2 ^ 32

pub record IsTooMany (bytes : List ℕ) (count : ℕ) : Type 0 where
  pub whole : 8 ≤ length bytes
  pub said : count ≡ count_in bytes
  pub many : 2 ^ 32 ≤ count

-- the number `at` is the first one that may not stand after the one before it
pub record IsFirstFailing (kind : Kind) (bytes : List ℕ) (at before number : ℕ) : Type 0 where
  pub counted : HasCount bytes
  pub within : at < numbers_said kind bytes
  pub whole : IsWhole kind bytes at
  pub before_is : before ≡ number_in kind bytes (at - 1)
  pub number_is : number ≡ number_in kind bytes at
  pub fails : Fails kind before number
  pub first : NoneFails kind bytes at

-- the bytes end before the count does, or before the last number, and no number that is whole fails
pub record IsShort (kind : Kind) (bytes : List ℕ) (got : ℕ) : Type 0 where
  pub all : got ≡ length bytes
  pub ends : (got < 8) ⊎ HasCount bytes
      × (got < 8 + number_width kind * numbers_said kind bytes) × NoneFails kind bytes (numbers_said kind bytes)

-- a byte follows the last number
pub record IsTrailing (kind : Kind) (bytes : List ℕ) (byte : ℕ) : Type 0 where
  pub counted : HasCount bytes
  pub more : 8 + number_width kind * numbers_said kind bytes < length bytes
  pub byte_is : byte ≡ slice_index bytes (8 + number_width kind * numbers_said kind bytes)
  pub none_fails : NoneFails kind bytes (numbers_said kind bytes)

-- the reading of the bytes: the numbers whose file they are, or the first fault
abbrev pub ReadsAsFile : Kind → List ℕ → Result (List ℕ) KeyFault → Type 0
ReadsAsFile kind bytes (Ok numbers) = IsFileOf kind numbers bytes
ReadsAsFile kind bytes (Err (TooMany count)) = IsTooMany bytes count
ReadsAsFile kind bytes (Err (Short got)) = IsShort kind bytes got
ReadsAsFile kind bytes (Err (Unsorted at before key)) = IsOfKeys kind × IsFirstFailing kind bytes at before key
ReadsAsFile kind bytes (Err (Wide at value)) =
    IsOfPoints kind × IsFirstFailing kind bytes at (number_in kind bytes (at - 1)) value
ReadsAsFile kind bytes (Err (Trailing byte)) = IsTrailing kind bytes byte
ReadsAsFile kind bytes (Err ReadFault) = ⊥
ReadsAsFile kind bytes (Err NoMemory) = ⊥

-- how many bytes are read at most: the count, and where it is one that a file may have, the numbers and one byte
abbrev pub reach_of : Kind → List ℕ → ℕ
reach_of kind bytes =
    if nat_lt (count_in bytes) (2 ^ 32) then 8 + number_width kind * numbers_said kind bytes + 1 else 8

-- bytes, which are numbers below 256, have exactly one reading
pub record HasOneReading (kind : Kind) (bytes : List ℕ) : Type 0 where
  pub reading : Result (List ℕ) KeyFault
  pub is_one : ReadsAsFile kind bytes reading
  pub only : (other : Result (List ℕ) KeyFault) → ReadsAsFile kind bytes other → other ≡ reading

-- any bytes have
abbrev pub ReadingsOfKindAreOne : Kind → Type 0
ReadingsOfKindAreOne kind = (bytes : List ℕ) → All (λ byte. byte < 256) bytes → HasOneReading kind bytes
