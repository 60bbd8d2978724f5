-- What each level shows: its segments pass a checker of covers,
-- and where they are the segmentation of their points no cover has
-- fewer runs. And what is known of lookups in an index, since it has what they need of levels.
use Rattle.std.proofs.Common.{◌≡◌, ℕ, ◌-◌, ◌^◌, ◌<◌, ◌≤◌, List, length, refl, arith}
use Rattle.std.specs.List.Sorted.{IsNonDecreasing}
use Rattle.exact_cross.specs.declared.segment.Segment.{Segment}
use Rattle.exact_cross.specs.Segments.{starts_of}
use Rattle.exact_cross.specs.Points.{points_of}
use Rattle.exact_cross.specs.Checked.{IsLeastCover, IsCoverWithin, AreChecked, AreShown, uncut}
use Rattle.exact_cross.proofs.CallerLemmas.{IsLeastCover-from_greedy, AreChecked-from_greedy, IsCoverWithin-from_shown}
use Rattle.key_points.specs.KeyPoints.{xs_of, ys_of}
use Rattle.key_points.proofs.CallerLemmas.{xs-first}
use Rattle.piece_join.specs.Cuttings.{AreCuts}
use Rattle.piece_join.proofs.RelaxedLemmas.{AreShown-from_laid, uncut-from_relaxed}
use Rattle.exact_cross.specs.IndexLevels.{level_at, eps_at}
use Rattle.levels.specs.Indexes.{IsLevel, IsIndex, IsRelaxedIndex, IsLaidIndex, xs_at, points_at}
use Rattle.levels.specs.declared.windows.LevelWindow.{LevelWindow}
use Rattle.levels.specs.Lookups.{AreWindows}
use Rattle.levels.proofs.LevelLemmas.{AscendsAt, xs_at-base, ys_at-base, heights_few}
use Rattle.levels.proofs.LevelLemmas.{IsLaidIndex-from_index, IsLaidIndex-from_relaxed}
use Rattle.levels.proofs.StoredLemmas.{eps_at-bounded}
use Rattle.levels.proofs.LookupLemmas.{ascends as laid_ascends}
use Rattle.levels.proofs.WindowLists.{AreWindows-unique as laid_windows-unique}
use Rattle.levels.proofs.WindowsExist.{AreWindows-some as laid_windows-some}

pub IsLevel-least : (keys : List ℕ) (eps eps_rec : ℕ) (levels : List (List Segment)) (i : ℕ) →
    IsLevel keys eps eps_rec levels i →
    IsLeastCover (points_at keys levels i)
    (eps_at eps eps_rec i) 0 (length (xs_at keys levels i)) (starts_of (level_at levels i))
IsLevel-least keys eps eps_rec levels i level =
    IsLeastCover-from_greedy (points_at keys levels i)
    (eps_at eps eps_rec i) 0 (length (xs_at keys levels i)) (starts_of (level_at levels i)) level.greedy

module _ (keys : List ℕ) (eps eps_rec : ℕ) (levels : List (List Segment))
    (order : IsNonDecreasing keys) (index : IsLaidIndex keys eps eps_rec levels) (few : length keys < 2 ^ 32)
    (bounded : eps ≤ 1048576) (bounded_rec : eps_rec ≤ 1048576) where
  pub laid-shown : (i : ℕ) →
      i < length levels → AreShown (points_at keys levels i) (eps_at eps eps_rec i) (level_at levels i)
  laid-shown i inside =
      let here = laid_ascends keys eps eps_rec levels order index i (omega arith) in
      AreShown-from_laid (points_at keys levels i) (eps_at eps eps_rec i)
      (level_at levels i) here.ascends (λ j low. omega (arith, heights_few keys levels i here j low, few))
      (eps_at-bounded eps eps_rec i bounded bounded_rec) (index.each i inside).laid

  pub laid-checked : (i : ℕ) → i < length levels → IsLevel keys eps eps_rec levels i →
      AreChecked (points_at keys levels i) (eps_at eps eps_rec i) (level_at levels i)
  laid-checked i inside level =
      let shown = laid-shown i inside in
      AreChecked-from_greedy (points_at keys levels i) (eps_at eps eps_rec i) 0 (length (xs_at keys levels i))
      (level_at levels i) refl refl level.greedy shown.in_range shown.fitted level.cuts

-- level 0 of a relaxed index has at most one run more for each cut than any cover
pub relaxed-within : (keys : List ℕ) (eps eps_rec : ℕ) (cuts : List ℕ) (levels : List (List Segment)) →
    IsNonDecreasing keys → length keys < 2 ^ 32 → eps ≤ 1048576 → eps_rec ≤ 1048576 →
    AreCuts (length (xs_of keys)) cuts → IsRelaxedIndex keys eps eps_rec cuts levels → 0 < length keys →
    IsCoverWithin
    (length cuts) (points_of (xs_of keys) (ys_of keys)) eps 0 (length (xs_of keys)) (starts_of (level_at levels 0))
relaxed-within keys eps eps_rec cuts levels order few bounded bounded_rec are index some =
    let laid = IsLaidIndex-from_relaxed keys eps eps_rec cuts levels are index in
    let here = laid_ascends keys eps eps_rec levels order laid 0 (omega arith) in
    let shown = laid-shown keys eps eps_rec levels order laid few bounded bounded_rec 0 (index.some some) in
    let close = IsCoverWithin-from_shown
    (points_at keys levels 0) (eps_at eps eps_rec 0) (level_at levels 0) here.ascends shown in
    let runs = uncut-from_relaxed (points_of (xs_of keys) (ys_of keys)) eps cuts
    (level_at levels 0) (xs-first keys some).0 are ((index.each 0 (index.some some)).base refl) in
    let slack : uncut (level_at levels 0) - 1 ≡ length cuts = omega (arith, runs) in
    rw (xs_at-base keys levels, ys_at-base keys levels, slack) at close

module _ (keys : List ℕ) (eps eps_rec : ℕ)
    (levels : List (List Segment)) (order : IsNonDecreasing keys) (index : IsIndex keys eps eps_rec levels) where
  laid : IsLaidIndex keys eps eps_rec levels
  laid = IsLaidIndex-from_index keys eps eps_rec levels index

  pub IsIndex-least : (i : ℕ) → i < length levels → IsLeastCover
      (points_at keys levels i) (eps_at eps eps_rec i) 0 (length (xs_at keys levels i)) (starts_of (level_at levels i))
  IsIndex-least i inside = IsLevel-least keys eps eps_rec levels i (index.each i inside)

  pub IsIndex-checked : length keys < 2 ^ 32 → eps ≤ 1048576 → eps_rec ≤ 1048576 → (i : ℕ) → i < length levels →
      AreChecked (points_at keys levels i) (eps_at eps eps_rec i) (level_at levels i)
  IsIndex-checked few bounded bounded_rec i inside =
      laid-checked keys eps eps_rec levels order laid few bounded bounded_rec i inside (index.each i inside)

  pub ascends : (i : ℕ) → i ≤ length levels → AscendsAt keys levels i
  ascends i within = laid_ascends keys eps eps_rec levels order laid i within

  pub AreWindows-unique : (q : ℕ) (windows others : List LevelWindow) →
      AreWindows keys eps eps_rec levels q windows → AreWindows keys eps eps_rec levels q others → windows ≡ others
  AreWindows-unique q windows others first second =
      laid_windows-unique keys eps eps_rec levels order laid q windows others first second

  pub AreWindows-some : (q : ℕ) → (windows : List LevelWindow) × AreWindows keys eps eps_rec levels q windows
  AreWindows-some q = laid_windows-some keys eps eps_rec levels order laid q
