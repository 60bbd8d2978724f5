-- The reading of any bytes as the file of an index: the index, or the first fault in the order of the bytes.
use Rattle.std.specs.Prelude.{◌≡◌, ◌≢◌, ◌⊎◌, ℕ, ◌+◌, ◌<◌, ◌≤◌, ◌^◌, List, [], ◌∷◌, ◌++◌}
use Rattle.std.specs.Prelude.{length, take, slice_index, Option, IfSome, Result, Ok, Err}
use Rattle.edge.specs.Reading.{HasRead}
use Rattle.edge.specs.Readers.{Reads}
use Rattle.edge.specs.declared.shelf.Shelf.{Ghosts}
use Rattle.exact_cross.specs.declared.TheConstants.{MAX_EPSILON}
use Rattle.index_file.specs.declared.fault.IndexFault.{IndexFault}
use Rattle.index_file.specs.declared.fault.IndexFault.TheVariants.{ReadFault, Short, Magic, Epsilon}
use Rattle.index_file.specs.declared.fault.IndexFault.TheVariants.{Side, Trailing, NoMemory}
use Rattle.index_file.specs.Spelling.{SavedIndex, number, magic, head_bytes, index_bytes, IsBounded, IsSpelling}
use Rattle.index_file.specs.Stops.{AreLevels, AreBeforeLevelCut, IsFront, IsSide, origin_of}

-- the bytes of any two bounds and of so many levels as follow, where
-- a bound that is whole in the first `got` bytes isn't too great
pub record IsFormUpTo (got : ℕ) (bytes : List ℕ) : Type 0 where
  pub eps : ℕ
  pub eps_rec : ℕ
  pub count : ℕ
  pub levels : List ℕ
  pub fits : eps < 2 ^ 32
  pub fits_rec : eps_rec < 2 ^ 32
  pub few : count < 2 ^ 32
  pub small : 12 ≤ got → eps ≤ MAX_EPSILON
  pub small_rec : 16 ≤ got → eps_rec ≤ MAX_EPSILON
  pub are : AreLevels count levels
  pub stand : bytes ≡ head_bytes eps eps_rec count ++ levels

-- the bytes end before the index does, and have no fault before their end
pub record IsShort (bytes : List ℕ) (got : ℕ) : Type 0 where
  pub all : got ≡ length bytes
  pub front : IsFront (IsFormUpTo got) bytes

-- the byte at this offset is the first that isn't that of PGMINDEX
pub record IsMagic (bytes : List ℕ) (at : ℕ) : Type 0 where
  pub within : at < 8
  pub there : at < length bytes
  pub before : take at bytes ≡ take at magic
  pub differs : slice_index bytes at ≢ slice_index magic at

-- the first bound that is too great is this one
pub record IsEpsilon (bytes : List ℕ) (value : ℕ) : Type 0 where
  pub behind : List ℕ
  pub great : MAX_EPSILON < value
  pub fits : value < 2 ^ 32
  pub stands : (bytes ≡ magic ++ (number value ++ behind))
      ⊎ ((eps : ℕ) × (eps ≤ MAX_EPSILON) × (bytes ≡ magic ++ (number eps ++ (number value ++ behind))))

-- what stands before a cut byte of an index
abbrev pub IsBeforeIndexCut : List ℕ → Type 0
IsBeforeIndexCut front =
    (eps : ℕ) × (eps_rec : ℕ) × (count : ℕ) × (rest : List ℕ) × (eps ≤ MAX_EPSILON) × (eps_rec ≤ MAX_EPSILON)
    × (count < 2 ^ 32) × AreBeforeLevelCut count rest × (front ≡ head_bytes eps eps_rec count ++ rest)

-- a byte follows the index
pub record IsTrailing (bytes : List ℕ) (byte : ℕ) : Type 0 where
  pub index : SavedIndex
  pub behind : List ℕ
  pub bounded : IsBounded index.eps index.eps_rec index.levels
  pub stand : bytes ≡ index_bytes index ++ byte ∷ behind

-- the fault of the bytes
abbrev pub FailsAs : List ℕ → IndexFault → Type 0
FailsAs bytes (Short got) = IsShort bytes got
FailsAs bytes (Magic at) = IsMagic bytes at
FailsAs bytes (Epsilon value) = IsEpsilon bytes value
FailsAs bytes (Side at byte) = IsSide IsBeforeIndexCut 0 bytes at byte
FailsAs bytes (Trailing byte) = IsTrailing bytes byte
FailsAs bytes ReadFault = ⊥
FailsAs bytes NoMemory = ⊥

-- the reading of the bytes: the index whose spelling they are, or the first fault
abbrev pub ReadsAs : List ℕ → Result SavedIndex IndexFault → Type 0
ReadsAs bytes (Ok index) = IsSpelling index bytes
ReadsAs bytes (Err fault) = FailsAs bytes fault

-- the spelling of an index
abbrev pub IsIndex : List ℕ → Type 0
IsIndex bytes = (index : SavedIndex) × IsSpelling index bytes

-- the bytes that were taken where this is the fault: all up to it, but the first
-- eight at once; one behind the index; and where memory ran out a front of an index
abbrev pub IsTaken : List ℕ → IndexFault → Type 0
IsTaken taken (Short got) = got ≡ length taken
IsTaken taken (Magic at) = length taken ≤ 8
IsTaken taken (Epsilon value) = length taken ≤ 16
IsTaken taken (Side at byte) = at + 1 ≡ length taken
IsTaken taken (Trailing byte) = (front : List ℕ) × IsIndex front × (taken ≡ front ++ byte ∷ [])
IsTaken taken NoMemory = (rest : List ℕ) × IsIndex (taken ++ rest)
IsTaken taken ReadFault = ⊥

-- all bytes that were left are the spelling of the index
pub record GivesIndex (index : SavedIndex) (before after : Option (List ℕ)) : Type 0 where
  pub saved : IfSome before (IsSpelling index)
  pub taken : HasRead before (index_bytes index) after

-- a call that reads a front of the file, or all of it
abbrev pub ReadsFile : {S T : Type 0} → Ghosts S → (T → Option (List ℕ) → Option (List ℕ) → Type 0)
    → S → Result T IndexFault → S → Type 0
ReadsFile shelf Gives old result new = Reads shelf origin_of Gives FailsAs IsTaken old result new
