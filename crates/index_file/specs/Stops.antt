-- Where the reading of a piece of the file stops.
use Rattle.std.specs.Prelude.{◌≡◌, ℕ, ◌+◌, ◌<◌, ◌^◌, List, ◌∷◌, ◌++◌, length, take, All, Option, Result}
use Rattle.std.specs.List.{flat_map}
use Rattle.edge.specs.Reading.{HasRead}
use Rattle.edge.specs.Readers.{Origin, Reads}
use Rattle.edge.specs.Readers.Origin.{of_shelf, of_memory, of_bytes}
use Rattle.edge.specs.declared.shelf.Shelf.{Ghosts}
use Rattle.index_file.specs.declared.saved.SavedRun.{SavedRun}
use Rattle.index_file.specs.declared.saved.SavedCut.{SavedCut}
use Rattle.index_file.specs.declared.fault.IndexFault.{IndexFault}
use Rattle.index_file.specs.declared.fault.IndexFault.TheVariants.{ReadFault, Short, Magic, Epsilon}
use Rattle.index_file.specs.declared.fault.IndexFault.TheVariants.{Side, Trailing, NoMemory}
use Rattle.index_file.specs.Spelling.{number, cut_bytes, pair_bytes, run_bytes}
use Rattle.index_file.specs.Spelling.{level_bytes, CutFits, RunFits, LevelFits}

-- the bytes of a number
abbrev pub IsNumber : List ℕ → Type 0
IsNumber bytes = (n : ℕ) × (n < 2 ^ 32) × (bytes ≡ number n)

-- the bytes that follow this one in a cut
abbrev pub FollowsInCut : ℕ → List ℕ → Type 0
FollowsInCut byte bytes = (cut : SavedCut) × CutFits cut × (byte ∷ bytes ≡ cut_bytes cut)

-- the bytes of a run
abbrev pub IsRun : List ℕ → Type 0
IsRun bytes = (run : SavedRun) × RunFits run × (bytes ≡ run_bytes run)

-- what stands before the cut byte of a run
abbrev pub IsBeforeCut : List ℕ → Type 0
IsBeforeCut front =
    (start : ℕ) × (a : ℕ) × (b : ℕ) × (start < 2 ^ 32) × (a < 2 ^ 32) × (b < 2 ^ 32) × (front ≡ pair_bytes start a b)

-- the bytes of n runs
abbrev pub AreRuns : ℕ → List ℕ → Type 0
AreRuns n bytes = (runs : List SavedRun) × (length runs ≡ n) × All RunFits runs × (bytes ≡ flat_map run_bytes runs)

-- what stands before a cut byte of n runs: runs, and the front of one more
abbrev pub AreBeforeCut : ℕ → List ℕ → Type 0
AreBeforeCut n front = (runs : List SavedRun) × (last : List ℕ)
    × (length runs < n) × All RunFits runs × IsBeforeCut last × (front ≡ flat_map run_bytes runs ++ last)

-- the same of a level
abbrev pub IsLevel : List ℕ → Type 0
IsLevel bytes = (runs : List SavedRun) × LevelFits runs × (bytes ≡ level_bytes runs)

abbrev pub IsBeforeLevelCut : List ℕ → Type 0
IsBeforeLevelCut front = (n : ℕ) × (rest : List ℕ) × (n < 2 ^ 32) × AreBeforeCut n rest × (front ≡ number n ++ rest)

-- and of n levels
abbrev pub AreLevels : ℕ → List ℕ → Type 0
AreLevels n bytes =
    (levels : List (List SavedRun)) × (length levels ≡ n) × All LevelFits levels × (bytes ≡ flat_map level_bytes levels)

abbrev pub AreBeforeLevelCut : ℕ → List ℕ → Type 0
AreBeforeLevelCut n front =
    (levels : List (List SavedRun)) × (last : List ℕ) × (length levels < n)
    × All LevelFits levels × IsBeforeLevelCut last × (front ≡ flat_map level_bytes levels ++ last)

-- no byte is a cut byte
abbrev pub IsNoCut : List ℕ → Type 0
IsNoCut front = ⊥

-- the bytes go on to a whole piece
pub record IsFront (Whole : List ℕ → Type 0) (bytes : List ℕ) : Type 0 where
  pub rest : List ℕ
  pub more : 0 < length rest
  pub whole : Whole (bytes ++ rest)

-- a byte above 2 stands where the cut byte of a run is to stand
pub record IsSide (BeforeCut : List ℕ → Type 0) (offset : ℕ) (bytes : List ℕ) (at byte : ℕ) : Type 0 where
  pub front : List ℕ
  pub behind : List ℕ
  pub stand : bytes ≡ front ++ byte ∷ behind
  pub before_cut : BeforeCut front
  pub place : at ≡ offset + length front
  pub no_side : 2 < byte

-- the bytes, which begin at this offset of the file, end before the piece does, or have a byte that is no side
abbrev pub StopsIn : (List ℕ → Type 0) → (List ℕ → Type 0) → ℕ → List ℕ → IndexFault → Type 0
StopsIn Whole BeforeCut offset bytes (Short got) = IsFront Whole bytes × (got ≡ offset + length bytes)
StopsIn Whole BeforeCut offset bytes (Side at byte) = IsSide BeforeCut offset bytes at byte
StopsIn Whole BeforeCut offset bytes ReadFault = ⊥
StopsIn Whole BeforeCut offset bytes (Magic at) = ⊥
StopsIn Whole BeforeCut offset bytes (Epsilon value) = ⊥
StopsIn Whole BeforeCut offset bytes (Trailing byte) = ⊥
StopsIn Whole BeforeCut offset bytes NoMemory = ⊥

-- the bytes end before this buffer is full, whose front they are
abbrev pub EndsIn : List ℕ → ℕ → List ℕ → IndexFault → Type 0
EndsIn buf offset bytes (Short got) = (n : ℕ) × (n < length buf) × (bytes ≡ take n buf) × (got ≡ offset + n)
EndsIn buf offset bytes _ = ⊥

-- where each fault comes from
abbrev pub origin_of : IndexFault → Origin
origin_of ReadFault = of_shelf
origin_of NoMemory = of_memory
origin_of (Short got) = of_bytes
origin_of (Magic at) = of_bytes
origin_of (Epsilon value) = of_bytes
origin_of (Side at byte) = of_bytes
origin_of (Trailing byte) = of_bytes

-- the bytes that were taken, which begin at this offset of the file, where this is
-- the fault: all up to it, and where memory ran out they go on to a whole piece
abbrev pub TakesIn : (List ℕ → Type 0) → ℕ → List ℕ → IndexFault → Type 0
TakesIn Whole offset taken (Short got) = got ≡ offset + length taken
TakesIn Whole offset taken (Side at byte) = at + 1 ≡ offset + length taken
TakesIn Whole offset taken NoMemory = (rest : List ℕ) × Whole (taken ++ rest)
TakesIn Whole offset taken _ = ⊥

-- a call that reads a piece whose bytes begin at this offset, and one that takes no memory and meets no cut byte
abbrev pub ReadsIn : {S T : Type 0} → Ghosts S → (T → Option (List ℕ) → Option (List ℕ) → Type 0)
    → (List ℕ → Type 0) → (List ℕ → Type 0) → ℕ → S → Result T IndexFault → S → Type 0
ReadsIn shelf Gives Whole BeforeCut offset old result new =
    Reads shelf origin_of Gives (StopsIn Whole BeforeCut offset) (TakesIn Whole offset) old result new

abbrev pub ReadsFew : {S T : Type 0} → Ghosts S → (T → Option (List ℕ) → Option (List ℕ) → Type 0)
    → (List ℕ → Type 0) → ℕ → S → Result T IndexFault → S → Type 0
ReadsFew shelf Gives Whole offset old result new =
    Reads shelf origin_of Gives (StopsIn Whole IsNoCut offset) (TakesIn IsNoCut offset) old result new

-- the bytes that end this cut, of which this byte was read, came next
abbrev pub GivesCut : ℕ → SavedCut → Option (List ℕ) → Option (List ℕ) → Type 0
GivesCut byte cut before after = (rest : List ℕ) × (byte ∷ rest ≡ cut_bytes cut) × HasRead before rest after
