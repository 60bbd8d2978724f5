-- The levels of an index: their points ascend, one more level
-- leaves the lower ones as they are, and there is one index.
--
-- Main results: `ascends_at`, `IsLaidIndex-from_index`, `IsIndex-over`,
-- `IsIndex-unique`, and the same of the relaxed index. A
-- level's points are a function of the levels below, so two indexes
-- agree level by level, and the first level of one run is the
-- last of both.
use Rattle.std.proofs.Common.{◌≡◌, inl, inr, ℕ, zero, suc, ◌+◌, ◌<◌, ◌≤◌, List, [], ◌∷◌, length}
use Rattle.std.proofs.Common.{slice_index, slice_index_or, sym, ap, ◌∙◌, subst, arith, add-one, ltb}
use Rattle.std.proofs.lemmas.Bool.{cases_lt}
use Rattle.std.proofs.lemmas.List.Sums.{count_by-le-length}
use Rattle.std.specs.List.Sorted.{IsNonDecreasing, IsStrictlyIncreasing}
use Rattle.exact_cross.specs.declared.segment.Segment.{Segment}
use Rattle.exact_cross.specs.Points.{Points, IsAscending, points_of, places}
use Rattle.exact_cross.specs.Lines.{SomeLineFits}
use Rattle.exact_cross.specs.Covers.{IsCover}
use Rattle.exact_cross.specs.Segments.{starts_of, EachRun}
use Rattle.exact_cross.proofs.CallerLemmas.{IsAscending-points_of, IsNonDecreasing-places}
use Rattle.exact_cross.proofs.CallerLemmas.{length-places, slice_index-places, slice_index-rises}
use Rattle.exact_cross.specs.Segmentation.{IsSegmentation}
use Rattle.exact_cross.proofs.LevelPoints.{level_xs-base, level_xs-above, level_ys-base, level_ys-above}
use Rattle.exact_cross.proofs.LevelPoints.{level_xs-same, level_ys-same, AreLevelled-unique}
use Rattle.exact_cross.proofs.Unique.{IsSegmentation-unique}
use Rattle.piece_join.specs.Cuttings.{AreCuts}
use Rattle.piece_join.specs.Laid.{IsLaid}
use Rattle.piece_join.specs.Relaxed.{IsRelaxed}
use Rattle.piece_join.proofs.RelaxedLemmas.{IsLaid-from_piece, IsLaid-from_cuts, IsRelaxed-unique}
use Rattle.key_points.specs.KeyPoints.{xs_of, ys_of}
use Rattle.levels.specs.declared.model.RunModel.{RunModel}
use Rattle.levels.specs.Models.{AreModels}
use Rattle.exact_cross.specs.IndexLevels.{first_xs, level_at, eps_at}
use Rattle.levels.specs.Indexes.{xs_at, ys_at, points_at, IsLevel, IsRelaxedLevel}
use Rattle.levels.specs.Indexes.{IsLaidLevel, IsIndex, IsRelaxedIndex, IsLaidIndex}
use Rattle.key_points.proofs.CallerLemmas.{xs-rise, xs-few, ys-length, ys-never_fall, xs-first, ys-at}
use Rattle.levels.proofs.SegmentLemmas.{runs_within, first_xs-count, first_x_at, run_at}

-- ---- a level's points

pub xs_at-base : (keys : List ℕ) (levels : List (List Segment)) → xs_at keys levels 0 ≡ xs_of keys
xs_at-base keys levels = level_xs-base (xs_of keys) levels

pub xs_at-above : (keys : List ℕ) (levels : List (List Segment)) (i : ℕ) →
    xs_at keys levels (i + 1) ≡ first_xs (xs_at keys levels i) (level_at levels i)
xs_at-above keys levels i = level_xs-above (xs_of keys) levels i

pub ys_at-base : (keys : List ℕ) (levels : List (List Segment)) → ys_at keys levels 0 ≡ ys_of keys
ys_at-base keys levels = level_ys-base (ys_of keys) levels

pub ys_at-above : (keys : List ℕ) (levels : List (List Segment)) (i : ℕ) →
    ys_at keys levels (i + 1) ≡ places (length (level_at levels i))
ys_at-above keys levels i = level_ys-above (ys_of keys) levels i

pub xs_at-length : (keys : List ℕ) (levels : List (List Segment)) (i : ℕ) →
    length (xs_at keys levels (i + 1)) ≡ length (level_at levels i)
xs_at-length keys levels i =
    ap length (xs_at-above keys levels i) ∙ first_xs-count (xs_at keys levels i) (level_at levels i)

-- the first x of runs rise
pub first_xs-rise : (xs : List ℕ) (p : Points) (eps : ℕ) (segments : List Segment) →
    IsStrictlyIncreasing xs → IsCover p eps 0 (length xs) (starts_of segments) →
    IsStrictlyIncreasing (first_xs xs segments)
first_xs-rise xs p eps [] rises cover = λ k inside. absurd (omega arith)
first_xs-rise xs p eps (d ∷ later) rises cover = λ k inside.
    let segments = d ∷ later in
    let count = first_xs-count xs segments in
    let here = run_at
    (λ segment e. Unit {0}) (SomeLineFits p eps) 0 (length xs) segments k d (omega arith) cover (all segments) in
    let next = run_at (λ segment e. Unit {0})
    (SomeLineFits p eps) 0 (length xs) segments (k + 1) d (omega arith) cover (all segments) in
    omega (
      arith,
      first_x_at xs segments k d (omega arith),
      first_x_at xs segments (k + 1) d (omega arith),
      slice_index-rises xs (slice_index_or segments k d).start (slice_index_or segments (k + 1) d).start rises
          (omega (arith, here.some, here.next d (omega arith))) (omega (arith, next.some, next.within)),
    )
  where
    all : (segments : List Segment) → EachRun (λ segment e. Unit {0}) (length xs) segments
    all [] = tt
    all (segment ∷ later) = (tt, all later)

-- the points of a level, where those below cover theirs
pub record AscendsAt (keys : List ℕ) (levels : List (List Segment)) (i : ℕ) : Type 0 where
  pub rises : IsStrictlyIncreasing (xs_at keys levels i)
  pub never_falls : IsNonDecreasing (ys_at keys levels i)
  pub same_length : length (ys_at keys levels i) ≡ length (xs_at keys levels i)
  pub ascends : IsAscending (points_at keys levels i)
  pub few : length (xs_at keys levels i) ≤ length keys

AscendsAt-in : (keys : List ℕ) (levels : List (List Segment)) (i : ℕ) →
    IsStrictlyIncreasing (xs_at keys levels i) → IsNonDecreasing (ys_at keys levels i) →
    length (ys_at keys levels i) ≡ length (xs_at keys levels i) →
    length (xs_at keys levels i) ≤ length keys → AscendsAt keys levels i
AscendsAt-in keys levels i rises never_falls same few = record {
  rises = rises;
  never_falls = never_falls;
  same_length = same;
  ascends = IsAscending-points_of (xs_at keys levels i) (ys_at keys levels i) same rises never_falls;
  few = few;
}

pub ascends_at : (keys : List ℕ) (eps eps_rec : ℕ) (levels : List (List Segment)) → IsNonDecreasing keys → (i : ℕ) →
    ((k : ℕ) → k < i → IsLaidLevel keys eps eps_rec levels k) → AscendsAt keys levels i
ascends_at keys eps eps_rec levels order zero below =
    AscendsAt-in keys levels 0
    (rw (xs_at-base keys levels) (xs-rise keys order)) (rw (ys_at-base keys levels) (ys-never_fall keys order))
    (rw (xs_at-base keys levels, ys_at-base keys levels) (ys-length keys))
    (rw (xs_at-base keys levels) (xs-few keys order))
ascends_at keys eps eps_rec levels order (suc i) below =
    let under = ascends_at keys eps eps_rec levels order i (λ k less. below k (omega arith)) in
    let cover = (below i (omega arith)).laid.cover in
    let runs = runs_within (SomeLineFits (points_at keys levels i) (eps_at eps eps_rec i))
    (length (xs_at keys levels i)) (level_at levels i) cover in
    let count = xs_at-length keys levels i in
    subst (AscendsAt keys levels) (add-one i)
    (AscendsAt-in keys levels (i + 1)
    (rw (xs_at-above keys levels i)
    (first_xs-rise
    (xs_at keys levels i) (points_at keys levels i) (eps_at eps eps_rec i) (level_at levels i) under.rises cover))
    (rw (ys_at-above keys levels i) (IsNonDecreasing-places (length (level_at levels i))))
    (ap length (ys_at-above keys levels i) ∙ length-places (length (level_at levels i)) ∙ sym count)
    (omega (arith, count, runs.0, under.few)))

-- no point is higher than the number of keys
pub heights_few : (keys : List ℕ) (levels : List (List Segment)) (i : ℕ) → AscendsAt keys levels i →
    (j : ℕ) → j < length (xs_at keys levels i) → slice_index (ys_at keys levels i) j ≤ length keys
heights_few keys levels zero here j inside =
    let base : j < length (xs_of keys) = omega (arith, ap length (xs_at-base keys levels)) in
    rw (ys_at-base keys levels)
    (omega (arith, ys-at keys j base, count_by-le-length (λ key. ltb key (slice_index (xs_of keys) j)) keys))
heights_few keys levels (suc i) here j inside =
    let count = xs_at-length keys levels i in
    let below :
    j < length (level_at levels i) = omega (arith, ap (λ (k : ℕ). length (xs_at keys levels k)) (add-one i)) in
    let height : slice_index (ys_at keys levels (suc i)) j ≡ j =
    ap (λ (k : ℕ). slice_index (ys_at keys levels k) j) (sym (add-one i))
    ∙ ap (λ (ys : List ℕ). slice_index ys j) (ys_at-above keys levels i)
    ∙ slice_index-places (length (level_at levels i)) j below in
    omega (arith, here.few)

-- where there is a key, each level has a point
pub some_at : (keys : List ℕ) (eps eps_rec : ℕ) (levels : List (List Segment)) →
    IsNonDecreasing keys → 0 < length keys → (i : ℕ) →
    ((k : ℕ) → k < i → IsLaidLevel keys eps eps_rec levels k) → 0 < length (xs_at keys levels i)
some_at keys eps eps_rec levels order some zero below = rw (xs_at-base keys levels) (xs-first keys some).0
some_at keys eps eps_rec levels order some (suc i) below =
    let runs = runs_within (SomeLineFits (points_at keys levels i) (eps_at eps eps_rec i))
    (length (xs_at keys levels i)) (level_at levels i) (below i (omega arith)).laid.cover in
    subst (λ (k : ℕ). 0 < length (xs_at keys levels k)) (add-one i)
    (omega (
      arith,
      xs_at-length keys levels i,
      runs.1 (some_at keys eps eps_rec levels order some i (λ k less. below k (omega arith))),
    ))

-- ---- one more level

pub xs_at-same : (keys : List ℕ) (levels others : List (List Segment)) (i : ℕ) →
    ((k : ℕ) → k < i → level_at levels k ≡ level_at others k) → xs_at keys levels i ≡ xs_at keys others i
xs_at-same keys levels others i same = level_xs-same (xs_of keys) levels others i same

pub ys_at-same : (keys : List ℕ) (levels others : List (List Segment)) (i : ℕ) →
    ((k : ℕ) → k < i → level_at levels k ≡ level_at others k) → ys_at keys levels i ≡ ys_at keys others i
ys_at-same keys levels others i same = level_ys-same (ys_of keys) levels others i same

-- what segments are over the points of level i, they are beside other levels too, where those below i are the same
level-in : (R : Points → ℕ → List Segment → Type 0)
    (keys : List ℕ) (levels others : List (List Segment)) (i : ℕ) (segments : List Segment) →
    ((k : ℕ) → k < i → level_at levels k ≡ level_at others k) →
    segments ≡ level_at others i → R (points_at keys levels i) (length (xs_at keys levels i)) segments →
    R (points_at keys others i) (length (xs_at keys others i)) (level_at others i)
level-in R keys levels others i segments below here level =
    subst (λ (segments : List Segment). R (points_at keys others i) (length (xs_at keys others i)) segments) here
    (subst (λ (ys : List ℕ). R (points_of (xs_at keys others i) ys) (length (xs_at keys others i)) segments)
    (ys_at-same keys levels others i below)
    (subst (λ (xs : List ℕ). R (points_of xs (ys_at keys levels i)) (length xs) segments)
    (xs_at-same keys levels others i below) level))

pub IsLevel-in :
    (keys : List ℕ) (eps eps_rec : ℕ) (levels others : List (List Segment)) (i : ℕ) (segments : List Segment) →
    ((k : ℕ) → k < i → level_at levels k ≡ level_at others k) → segments ≡ level_at others i →
    IsSegmentation (points_at keys levels i) (eps_at eps eps_rec i) 0 (length (xs_at keys levels i)) segments →
    IsLevel keys eps eps_rec others i
IsLevel-in keys eps eps_rec levels others i segments below here level =
    level-in (λ p to segments. IsSegmentation p (eps_at eps eps_rec i) 0 to segments)
    keys levels others i segments below here level

pub IsLaidLevel-in :
    (keys : List ℕ) (eps eps_rec : ℕ) (levels others : List (List Segment)) (i : ℕ) (segments : List Segment) →
    ((k : ℕ) → k < i → level_at levels k ≡ level_at others k) → segments ≡ level_at others i →
    IsLaid (points_at keys levels i) (eps_at eps eps_rec i) 0 (length (xs_at keys levels i)) segments →
    (0 < i → IsSegmentation (points_at keys levels i) (eps_at eps eps_rec i) 0 (length (xs_at keys levels i)) segments)
    → IsLaidLevel keys eps eps_rec others i
IsLaidLevel-in keys eps eps_rec levels others i segments below here laid level = record {
  laid = level-in
      (λ p to segments. IsLaid p (eps_at eps eps_rec i) 0 to segments) keys levels others i segments below here laid;
  above = λ above. IsLevel-in keys eps eps_rec levels others i segments below here (level above);
}

-- and models of that segmentation are models beside them
pub AreModels-in : (keys : List ℕ)
    (levels others : List (List Segment)) (i eps : ℕ) (segments : List Segment) (models : List RunModel) →
    ((k : ℕ) → k < i → level_at levels k ≡ level_at others k) → segments ≡ level_at others i →
    AreModels (points_at keys levels i) eps (length (xs_at keys levels i)) segments models →
    AreModels (points_at keys others i) eps (length (xs_at keys others i)) (level_at others i) models
AreModels-in keys levels others i eps segments models below here own =
    subst (λ (segments : List Segment).
    AreModels (points_at keys others i) eps (length (xs_at keys others i)) segments models) here
    (subst (λ (ys : List ℕ).
    AreModels (points_of (xs_at keys others i) ys) eps (length (xs_at keys others i)) segments models)
    (ys_at-same keys levels others i below)
    (subst (λ (xs : List ℕ). AreModels (points_of xs (ys_at keys levels i)) eps (length xs) segments models)
    (xs_at-same keys levels others i below) own))

-- ---- what lookups need of a level

-- the segmentation of a level's points has it
pub IsLaidLevel-from_level : (keys : List ℕ) (eps eps_rec : ℕ) (levels : List (List Segment)) (i : ℕ) →
    IsLevel keys eps eps_rec levels i → IsLaidLevel keys eps eps_rec levels i
IsLaidLevel-from_level keys eps eps_rec levels i level = record {
  laid = IsLaid-from_piece (points_at keys levels i)
      (eps_at eps eps_rec i) 0 (length (xs_at keys levels i)) (level_at levels i) (omega arith) level;
  above = λ some. level;
}

pub IsLaidIndex-from_index : (keys : List ℕ) (eps eps_rec : ℕ) (levels : List (List Segment)) →
    IsIndex keys eps eps_rec levels → IsLaidIndex keys eps eps_rec levels
IsLaidIndex-from_index keys eps eps_rec levels index = record {
  none = index.none;
  some = index.some;
  each = λ i inside. IsLaidLevel-from_level keys eps eps_rec levels i (index.each i inside);
  last = index.last;
  others = index.others;
}

pub IsLaidIndex-from_relaxed : (keys : List ℕ) (eps eps_rec : ℕ) (cuts : List ℕ) (levels : List (List Segment)) →
    AreCuts (length (xs_of keys)) cuts →
    IsRelaxedIndex keys eps eps_rec cuts levels → IsLaidIndex keys eps eps_rec levels
IsLaidIndex-from_relaxed keys eps eps_rec cuts levels are index = record {
  none = index.none;
  some = index.some;
  each = λ i inside. elim (cases_lt 0 i) [
    | inl above ↦ IsLaidLevel-from_level keys eps eps_rec levels i ((index.each i inside).above above)
    | inr lowest ↦
        let base : i ≡ 0 = omega arith in
        record {
          laid = rw (base, xs_at-base keys levels, ys_at-base keys levels)
              (IsLaid-from_cuts (points_of (xs_of keys) (ys_of keys)) eps cuts
              (level_at levels 0) are ((index.each i inside).base base));
          above = λ some. absurd (omega arith);
        }
  ];
  last = index.last;
  others = index.others;
}

-- levels over the segmentation of the points of the keys are the index
pub IsIndex-over : (keys : List ℕ) (eps eps_rec : ℕ) (levels : List (List Segment)) (segments : List Segment) →
    IsLaidIndex keys eps eps_rec levels →
    (0 < length levels → level_at levels 0 ≡ segments) →
    IsSegmentation (points_of (xs_of keys) (ys_of keys)) eps 0 (length (xs_of keys)) segments →
    IsIndex keys eps eps_rec levels
IsIndex-over keys eps eps_rec levels segments index is own = record {
  none = index.none;
  some = index.some;
  each = λ i inside. elim (cases_lt 0 i) [
    | inl above ↦ (index.each i inside).above above
    | inr lowest ↦
        let base : i ≡ 0 = omega arith in
        let first : level_at levels 0 ≡ segments = is (omega arith) in
        rw (base, xs_at-base keys levels, ys_at-base keys levels, first) own
  ];
  last = index.last;
  others = index.others;
}

-- and levels over pieces side by side are the relaxed index
pub IsRelaxedIndex-over : (keys : List ℕ) (eps eps_rec : ℕ)
    (cuts : List ℕ) (levels : List (List Segment)) (segments : List Segment) → IsLaidIndex keys eps eps_rec levels →
    (0 < length levels → level_at levels 0 ≡ segments) →
    IsRelaxed (points_of (xs_of keys) (ys_of keys)) eps 0 (length (xs_of keys)) cuts segments →
    IsRelaxedIndex keys eps eps_rec cuts levels
IsRelaxedIndex-over keys eps eps_rec cuts levels segments index is own = record {
  none = index.none;
  some = index.some;
  each = λ i inside. record {
    base = λ base.
        let first : level_at levels 0 ≡ segments = is (omega arith) in
        subst (λ (l : List Segment). IsRelaxed (points_of (xs_of keys) (ys_of keys)) eps 0 (length (xs_of keys)) cuts l)
        (sym first) own;
    above = (index.each i inside).above;
  };
  last = index.last;
  others = index.others;
}

-- ---- there is one index

-- a level's segmentation is one, where the levels below are the same
level_agrees : (keys : List ℕ) (eps eps_rec : ℕ) (one two : List (List Segment)) (i : ℕ) →
    IsLevel keys eps eps_rec one i → IsLevel keys eps eps_rec two i →
    ((k : ℕ) → k < i → level_at one k ≡ level_at two k) → level_at one i ≡ level_at two i
level_agrees keys eps eps_rec one two i first second below =
    IsSegmentation-unique
    (points_at keys two i) (eps_at eps eps_rec i) 0 (length (xs_at keys two i)) (level_at one i) (level_at two i)
    (subst (λ (ys : List ℕ). IsSegmentation
    (points_of (xs_at keys two i) ys) (eps_at eps eps_rec i) 0 (length (xs_at keys two i)) (level_at one i))
    (ys_at-same keys one two i below)
    (subst (λ (xs : List ℕ).
    IsSegmentation (points_of xs (ys_at keys one i)) (eps_at eps eps_rec i) 0 (length xs) (level_at one i))
    (xs_at-same keys one two i below) first))
    second

pub IsIndex-unique : (keys : List ℕ) (eps eps_rec : ℕ) (one two : List (List Segment)) →
    IsIndex keys eps eps_rec one → IsIndex keys eps eps_rec two → one ≡ two
IsIndex-unique keys eps eps_rec one two first second =
    AreLevelled-unique (λ i. IsLevel keys eps eps_rec one i) (λ i. IsLevel keys eps eps_rec two i) (length keys)
    one two first second (λ i own other below. level_agrees keys eps eps_rec one two i own other below)

pub IsRelaxedIndex-unique : (keys : List ℕ) (eps eps_rec : ℕ) (cuts : List ℕ) (one two : List (List Segment)) →
    IsRelaxedIndex keys eps eps_rec cuts one →
    IsRelaxedIndex keys eps eps_rec cuts two → one ≡ two
IsRelaxedIndex-unique keys eps eps_rec cuts one two first second =
    AreLevelled-unique
    (λ i. IsRelaxedLevel keys eps eps_rec cuts one i) (λ i. IsRelaxedLevel keys eps eps_rec cuts two i)
    (length keys) one two first second (λ i own other below. elim (cases_lt 0 i) [
      | inl above ↦ level_agrees keys eps eps_rec one two i (own.above above) (other.above above) below
      | inr lowest ↦
          let base : i ≡ 0 = omega arith in
          subst (λ (k : ℕ). level_at one k ≡ level_at two k) (sym base)
          (IsRelaxed-unique (points_of (xs_of keys) (ys_of keys)) eps 0
          (length (xs_of keys)) cuts (level_at one 0) (level_at two 0) (own.base base) (other.base base))
    ])
