-- The bytes of a saved index.
use Rattle.std.specs.Prelude.{◌≡◌, ℕ, ◌+◌, ◌<◌, ◌≤◌, ◌^◌, List, [], ◌∷◌, ◌++◌, length, map, All, Vec}
use Rattle.std.specs.List.{flat_map}
use Rattle.std.specs.Int.{w32, to_le_bytes}
use Rattle.std.specs.declared.alloc.Global.{Global}
use Rattle.exact_cross.specs.declared.TheConstants.{MAX_EPSILON}
use Rattle.index_file.specs.declared.saved.SavedRun.{SavedRun}
use Rattle.index_file.specs.declared.saved.SavedCut.{SavedCut}
use Rattle.index_file.specs.declared.saved.SavedCut.TheVariants.{Last, Over, Under}

-- an index as it is saved: two error bounds, and the runs of each level, the lowest first
pub record SavedIndex : Type 0 where
  pub eps : ℕ
  pub eps_rec : ℕ
  pub levels : List (List SavedRun)

-- the runs of each level, as they are kept
abbrev pub runs_of : List (Vec SavedRun Global) → List (List SavedRun)
runs_of levels = map (λ runs. runs.items) levels

-- how many runs levels have together, and those of an index
abbrev pub count_runs : List (List SavedRun) → ℕ
count_runs [] = 0
count_runs (runs ∷ later) = length runs + count_runs later

abbrev pub run_count : SavedIndex → ℕ
run_count index = count_runs index.levels

-- a number's four bytes, the lowest first
unfoldable pub number : ℕ → List ℕ
number n = to_le_bytes w32 n

-- why a run ends: 0 for the last one, 1 for over, and 2 for under with its pair
unfoldable pub cut_bytes : SavedCut → List ℕ
cut_bytes Last = 0 ∷ []
cut_bytes Over = 1 ∷ []
cut_bytes (Under p q) = 2 ∷ (number p ++ number q)

-- where a run starts, and its steep pair
unfoldable pub pair_bytes : ℕ → ℕ → ℕ → List ℕ
pair_bytes start a b = number start ++ (number a ++ number b)

unfoldable pub run_bytes : SavedRun → List ℕ
run_bytes run = pair_bytes run.start run.a run.b ++ cut_bytes run.cut

-- the number of runs, and the runs
unfoldable pub level_bytes : List SavedRun → List ℕ
level_bytes runs = number (length runs) ++ flat_map run_bytes runs

-- PGMINDEX
abbrev pub magic : List ℕ
magic = 80 ∷ 71 ∷ 77 ∷ 73 ∷ 78 ∷ 68 ∷ 69 ∷ 88 ∷ []

-- the two bounds, and the number of levels
unfoldable pub head_bytes : ℕ → ℕ → ℕ → List ℕ
head_bytes eps eps_rec levels = magic ++ (number eps ++ (number eps_rec ++ number levels))

unfoldable pub index_bytes : SavedIndex → List ℕ
index_bytes index = head_bytes index.eps index.eps_rec (length index.levels) ++ flat_map level_bytes index.levels

-- the places of a cut have four bytes
abbrev pub CutFits : SavedCut → Type 0
CutFits Last = Unit {0}
CutFits Over = Unit {0}
CutFits (Under p q) = (p < 2 ^ 32) × (q < 2 ^ 32)

-- so do the numbers of a run
pub record RunFits (run : SavedRun) : Type 0 where
  pub start : run.start < 2 ^ 32
  pub a : run.a < 2 ^ 32
  pub b : run.b < 2 ^ 32
  pub cut : CutFits run.cut

-- and the number of runs of a level
pub record LevelFits (runs : List SavedRun) : Type 0 where
  pub few : length runs < 2 ^ 32
  pub each : All RunFits runs

-- the error bounds are at most 1,048,576, and the numbers have four bytes
pub record IsBounded (eps eps_rec : ℕ) (levels : List (List SavedRun)) : Type 0 where
  pub small : eps ≤ MAX_EPSILON
  pub small_rec : eps_rec ≤ MAX_EPSILON
  pub few : length levels < 2 ^ 32
  pub each : All LevelFits levels

-- the bytes are the spelling of the index
pub record IsSpelling (index : SavedIndex) (bytes : List ℕ) : Type 0 where
  pub bounded : IsBounded index.eps index.eps_rec index.levels
  pub written : bytes ≡ index_bytes index
