-- The windows along a lookup.
-- Source: P. Ferragina and G. Vinciguerra, The PGM-index, PVLDB 13(8), 2020, section 2.
use Rattle.std.specs.Prelude.{◌≡◌, ◌⊎◌, ◌==◌, if◌then◌else◌, ℕ, ◌+◌, ◌-◌, ◌*◌, ◌<◌, ◌≤◌}
use Rattle.std.specs.Prelude.{List, [], ◌∷◌, ◌++◌, length, slice_index, slice_index_or, All}
use Rattle.exact_cross.specs.declared.segment.Segment.{Segment}
use Rattle.levels.specs.declared.windows.LevelWindow.{LevelWindow}
use Rattle.exact_cross.specs.Covers.{run_end}
use Rattle.exact_cross.specs.Segments.{starts_of}
use Rattle.window_search.specs.Searches.{lb, IsPredecessor}
use Rattle.window_search.specs.Windows.{IsWindow}
use Rattle.exact_cross.specs.IndexLevels.{level_at, eps_at}
use Rattle.levels.specs.Indexes.{PgmIndex, xs_at, ys_at}

-- the list of segments has this one, and its run goes up to e:
-- to the next segment's start, the last one's to the end of all
pub record HasRun (segments : List Segment) (to : ℕ) (segment : Segment) (e : ℕ) : Type 0 where
  pub before : List Segment
  pub later : List Segment
  pub stands : segments ≡ before ++ segment ∷ later
  pub ends : e ≡ run_end (starts_of later) to

-- the greatest place of the windows of level i: at level 0 the length of the file, and above that of the level's list
abbrev pub extent_at : List ℕ → List (List Segment) → ℕ → ℕ
extent_at keys levels i = if i == 0 then length keys else length (xs_at keys levels i)

-- low ..= high is the window of q at level i: that of the run whose points include the last one with an x at most q
pub record IsWindowAt (keys : List ℕ) (eps eps_rec : ℕ) (levels : List (List Segment)) (i q low high : ℕ) : Type 0 where
  pub place : ℕ
  pub last : IsPredecessor (xs_at keys levels i) q place
  pub segment : Segment
  pub e : ℕ
  pub run : HasRun (level_at levels i) (length (xs_at keys levels i)) segment e
  pub from_start : segment.start ≤ place
  pub to_end : place < e
  pub window : IsWindow segment.line (slice_index (ys_at keys levels i) segment.start)
      (slice_index (ys_at keys levels i) (e - 1)) (eps_at eps eps_rec i) q (extent_at keys levels i) low high

-- no window is formed: there is no key, or q is below the first one, which is the first x of all levels
abbrev pub IsBelowAll : List ℕ → ℕ → Type 0
IsBelowAll keys q = (length keys ≡ 0) ⊎ (q < slice_index keys 0)

-- the windows of q, each with its level, from the last level down to level 0
pub record AreWindows
    (keys : List ℕ) (eps eps_rec : ℕ) (levels : List (List Segment)) (q : ℕ) (windows : List LevelWindow) : Type 0 where
  pub none : IsBelowAll keys q → windows ≡ []
  pub some : 0 < length keys → slice_index keys 0 ≤ q → length windows ≡ length levels
  pub order : (k : ℕ) (d : LevelWindow) →
      k < length windows → (slice_index_or windows k d).level + (k + 1) ≡ length levels
  pub each : All (λ window. IsWindowAt keys eps eps_rec levels window.level q window.low window.high) windows

-- low ..= high holds what is looked for at level i: at level 0 how many keys are
-- below q, and above it the predecessor and the lower bound in the level's list
pub record HoldsAnswers (keys : List ℕ) (levels : List (List Segment)) (i q low high : ℕ) : Type 0 where
  pub position : i ≡ 0 → (low ≤ lb keys q) × (lb keys q ≤ high)
  pub predecessor : (place : ℕ) → 0 < i → IsPredecessor (xs_at keys levels i) q place → (low ≤ place) × (place ≤ high)
  pub lower_bound : 0 < i → (low ≤ lb (xs_at keys levels i) q) × (lb (xs_at keys levels i) q ≤ high)

-- low ..= high has at most 2ε + 3 places, ε being the error bound of level i
abbrev pub IsNarrow : ℕ → ℕ → ℕ → ℕ → ℕ → Type 0
IsNarrow eps eps_rec i low high = high + 1 ≤ low + (2 * eps_at eps eps_rec i + 3)

-- the window holds what is looked for at its level, in at most 2ε + 3 places
pub record HoldsNarrowly (index : PgmIndex) (q : ℕ) (window : LevelWindow) : Type 0 where
  pub holds : HoldsAnswers index.keys index.levels window.level q window.low window.high
  pub narrow : IsNarrow index.eps index.eps_rec window.level window.low window.high

-- the windows of q from the last level down to level n, with what they hold
pub record HasWindowsTo (index : PgmIndex) (q n : ℕ) (windows : List LevelWindow) : Type 0 where
  pub count : length windows + n ≡ length index.levels
  pub order : (k : ℕ) (d : LevelWindow) →
      k < length windows → (slice_index_or windows k d).level + (k + 1) ≡ length index.levels
  pub each :
      All (λ window. IsWindowAt index.keys index.eps index.eps_rec index.levels window.level q window.low window.high)
      windows
  pub holds : All (HoldsNarrowly index q) windows
