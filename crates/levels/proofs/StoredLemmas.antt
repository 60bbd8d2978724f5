-- Levels as they are kept.
--
-- Main results: `AreLevels-base`: level 0 by itself, `AreLevels-push`:
-- one more level, `AreStored-in`: all levels, where the last
-- one has one run; `fewer_above`: the level above the last one has fewer runs, where the last one has more than one.
use Rattle.std.proofs.Common.{◌≡◌, ◌≢◌, inl, inr, ℕ, zero, suc, ◌+◌, ◌-◌, ◌^◌, ◌<◌, ◌≤◌, List, [], ◌∷◌}
use Rattle.std.proofs.Common.{◌++◌, length, slice_index_or, refl, sym, ap, ◌∙◌, subst, arith, add-one}
use Rattle.std.proofs.lemmas.Bool.{cases_lt, cases_eq}
use Rattle.std.proofs.lemmas.Bool.Decides.{nat_tests}
use Rattle.std.proofs.lemmas.List.{length-map, length-append, get_or-map, get_or_append_left, map-append}
use Rattle.std.proofs.Math.Seq.{get_or-append_seam}
use Rattle.std.specs.List.Sorted.{IsNonDecreasing, IsStrictlyIncreasing}
use Rattle.exact_cross.specs.declared.segment.Segment.{Segment}
use Rattle.exact_cross.specs.Points.{points_of, places}
use Rattle.exact_cross.specs.Lines.{SomeLineFits}
use Rattle.exact_cross.specs.Segments.{IsSteepSegment}
use Rattle.exact_cross.specs.Segmentation.{IsSegmentation}
use Rattle.piece_join.specs.Laid.{IsLaid}
use Rattle.levels.specs.declared.level.Level.{Level}
use Rattle.levels.specs.declared.model.RunModel.{RunModel}
use Rattle.levels.specs.Models.{AreModels}
use Rattle.key_points.specs.KeyPoints.{xs_of, ys_of}
use Rattle.exact_cross.specs.IndexLevels.{first_xs, level_at, eps_at}
use Rattle.levels.specs.Indexes.{xs_at, ys_at, points_at, IsLevel, IsLaidLevel, places_below}
use Rattle.levels.specs.Stored.{segments_of, AreLevels, AreStored}
use Rattle.levels.proofs.SegmentLemmas.{runs_within, fewer_runs, run_at}
use Rattle.levels.proofs.LevelLemmas.{xs_at-base, ys_at-base, xs_at-above, ys_at-above, AscendsAt, ascends_at}
use Rattle.levels.proofs.LevelLemmas.{some_at, xs_at-same, xs_at-length, IsLevel-in, IsLaidLevel-in, AreModels-in}

pub segments_of-count : (levels : List Level) → length (segments_of levels) ≡ length levels
segments_of-count levels = length-map levels (λ (level : Level). level.segments.items)

pub segments_of-push : (levels : List Level) (level : Level) →
    segments_of (levels ++ level ∷ []) ≡ segments_of levels ++ level.segments.items ∷ []
segments_of-push levels level = map-append (λ (level : Level). level.segments.items) levels (level ∷ [])

pub level_at-kept : (levels : List Level) (i : ℕ) (d : Level) →
    i < length levels → level_at (segments_of levels) i ≡ (slice_index_or levels i d).segments.items
level_at-kept levels i d inside = get_or-map (λ (level : Level). level.segments.items) levels i d [] inside

pub level_at-below : (levels : List (List Segment)) (more : List Segment) (i : ℕ) →
    i < length levels → level_at levels i ≡ level_at (levels ++ more ∷ []) i
level_at-below levels more i inside = sym (get_or_append_left levels (more ∷ []) [] i inside)

pub level_at-last : (levels : List (List Segment)) (more : List Segment) (i : ℕ) →
    i ≡ length levels → more ≡ level_at (levels ++ more ∷ []) i
level_at-last levels more i last = sym (ap (level_at (levels ++ more ∷ [])) last ∙ get_or-append_seam levels more [] [])

-- ---- one more level

pub IsLevel-push : (keys : List ℕ) (eps eps_rec : ℕ) (levels : List (List Segment)) (more : List Segment) (n : ℕ) →
    n ≡ length levels →
    ((i : ℕ) → i < n → IsLevel keys eps eps_rec levels i) →
    IsSegmentation (points_at keys levels n) (eps_at eps eps_rec n) 0 (length (xs_at keys levels n)) more →
    (i : ℕ) → i < n + 1 → IsLevel keys eps eps_rec (levels ++ more ∷ []) i
IsLevel-push keys eps eps_rec levels more n count below here i inside = elim (cases_lt i n) [
  | inl before ↦
      IsLevel-in keys eps eps_rec levels
      (levels ++ more ∷ []) i (level_at levels i) (λ k less. level_at-below levels more k (omega arith))
      (level_at-below levels more i (omega arith)) (below i before)
  | inr from ↦
      let last : n ≡ i = omega arith in
      subst (λ (k : ℕ). IsLevel keys eps eps_rec (levels ++ more ∷ []) k) last
      (IsLevel-in keys eps eps_rec levels (levels ++ more ∷ []) n more
      (λ k less. level_at-below levels more k (omega arith)) (level_at-last levels more n count) here)
]

IsLaidLevel-push : (keys : List ℕ) (eps eps_rec : ℕ) (levels : List (List Segment)) (more : List Segment) (n : ℕ) →
    n ≡ length levels →
    ((i : ℕ) → i < n → IsLaidLevel keys eps eps_rec levels i) →
    IsLaid (points_at keys levels n) (eps_at eps eps_rec n) 0 (length (xs_at keys levels n)) more →
    (0 < n → IsSegmentation (points_at keys levels n) (eps_at eps eps_rec n) 0 (length (xs_at keys levels n)) more) →
    (i : ℕ) → i < n + 1 → IsLaidLevel keys eps eps_rec (levels ++ more ∷ []) i
IsLaidLevel-push keys eps eps_rec levels more n count below here above i inside = elim (cases_lt i n) [
  | inl before ↦
      IsLaidLevel-in keys eps eps_rec levels (levels ++ more ∷ []) i (level_at levels i)
      (λ k less. level_at-below levels more k (omega arith)) (level_at-below levels more i (omega arith))
      (below i before).laid (below i before).above
  | inr from ↦
      let last : n ≡ i = omega arith in
      subst (λ (k : ℕ). IsLaidLevel keys eps eps_rec (levels ++ more ∷ []) k) last
      (IsLaidLevel-in keys eps eps_rec levels (levels ++ more ∷ []) n more
      (λ k less. level_at-below levels more k (omega arith)) (level_at-last levels more n count) here above)
]

pub AreLevels-push : (keys : List ℕ) (eps eps_rec : ℕ) (levels : List Level) (level : Level) →
    AreLevels keys eps eps_rec levels →
    ((i : ℕ) → i + 1 ≡ length levels → length (level_at (segments_of levels) i) ≢ 1) →
    IsLaid (points_at keys (segments_of levels) (length levels)) (eps_at eps eps_rec (length levels)) 0
    (length (xs_at keys (segments_of levels) (length levels))) level.segments.items →
    (0 < length levels →
    IsSegmentation (points_at keys (segments_of levels) (length levels)) (eps_at eps eps_rec (length levels)) 0
    (length (xs_at keys (segments_of levels) (length levels))) level.segments.items) →
    AreModels (points_at keys (segments_of levels) (length levels)) (eps_at eps eps_rec (length levels))
    (length (xs_at keys (segments_of levels) (length levels))) level.segments.items level.models.items →
    (0 < length levels → level.xs.items ≡ xs_at keys (segments_of levels) (length levels)) →
    AreLevels keys eps eps_rec (levels ++ level ∷ [])
AreLevels-push keys eps eps_rec levels level so_far unfinished here above own_models xs = record {
  never_falls = so_far.never_falls;
  few = so_far.few;
  bounded = so_far.bounded;
  bounded_rec = so_far.bounded_rec;
  each = λ i inside. rw (segments_of-push levels level) (each i (omega (arith, count, inside)));
  others = λ i inside. rw (segments_of-push levels level) (others i (omega (arith, count, inside)));
  models = λ i d inside. rw (segments_of-push levels level) (models i d (omega (arith, count, inside)));
  kept = λ i d above inside. rw (segments_of-push levels level) (kept i d above (omega (arith, count, inside)));
}
  where
    old : List (List Segment)
    old = segments_of levels

    more : List Segment
    more = level.segments.items

    count : length (levels ++ level ∷ []) ≡ length levels + 1
    count = length-append levels (level ∷ [])

    same : (i : ℕ) → i ≤ length levels →
        (k : ℕ) → k < i → level_at (segments_of levels) k ≡ level_at (segments_of levels ++ level.segments.items ∷ []) k
    same i within k less =
        level_at-below (segments_of levels) level.segments.items k (omega (arith, segments_of-count levels))

    each : (i : ℕ) →
        i < length levels + 1 → IsLaidLevel keys eps eps_rec (segments_of levels ++ level.segments.items ∷ []) i
    each = IsLaidLevel-push keys eps eps_rec (segments_of levels) level.segments.items
        (length levels) (sym (segments_of-count levels)) so_far.each here above

    others : (i : ℕ) →
        i + 1 < length levels + 1 → length (level_at (segments_of levels ++ level.segments.items ∷ []) i) ≢ 1
    others i inside =
        let is = level_at-below (segments_of levels) level.segments.items i (omega (arith, segments_of-count levels)) in
        λ one. elim (cases_lt (i + 1) (length levels)) [
          | inl before ↦ so_far.others i before (ap length is ∙ one)
          | inr last ↦ unfinished i (omega arith) (ap length is ∙ one)
        ]

    models : (i : ℕ) (d : Level) → i < length levels + 1 →
        AreModels (points_at keys (segments_of levels ++ level.segments.items ∷ []) i)
        (eps_at eps eps_rec i) (length (xs_at keys (segments_of levels ++ level.segments.items ∷ []) i))
        (level_at (segments_of levels ++ level.segments.items ∷ []) i)
        (slice_index_or (levels ++ level ∷ []) i d).models.items
    models i d inside = elim (cases_lt i (length levels)) [
      | inl before ↦
          let is = get_or_append_left levels (level ∷ []) d i before in
          subst (λ (models : List RunModel).
          AreModels (points_at keys (segments_of levels ++ level.segments.items ∷ []) i) (eps_at eps eps_rec i)
          (length (xs_at keys (segments_of levels ++ level.segments.items ∷ []) i))
          (level_at (segments_of levels ++ level.segments.items ∷ []) i) models)
          (ap (λ (l : Level). l.models.items) (sym is))
          (AreModels-in keys (segments_of levels) (segments_of levels ++ level.segments.items ∷ []) i
          (eps_at eps eps_rec i) (level_at (segments_of levels) i) (slice_index_or levels i d).models.items
          (same i (omega arith))
          (level_at-below (segments_of levels) level.segments.items i (omega (arith, segments_of-count levels)))
          (so_far.models i d before))
      | inr from ↦
          let last : i ≡ length levels = omega arith in
          let is : slice_index_or (levels ++ level ∷ []) i d ≡ level =
          ap (λ (k : ℕ). slice_index_or (levels ++ level ∷ []) k d) last ∙ get_or-append_seam levels level [] d in
          subst (λ (models : List RunModel).
          AreModels (points_at keys (segments_of levels ++ level.segments.items ∷ []) i) (eps_at eps eps_rec i)
          (length (xs_at keys (segments_of levels ++ level.segments.items ∷ []) i))
          (level_at (segments_of levels ++ level.segments.items ∷ []) i) models)
          (ap (λ (l : Level). l.models.items) (sym is))
          (AreModels-in keys (segments_of levels) (segments_of levels ++ level.segments.items ∷ []) i
          (eps_at eps eps_rec i) level.segments.items level.models.items
          (same i (omega arith))
          (level_at-last (segments_of levels) level.segments.items i (omega (arith, segments_of-count levels)))
          (subst (λ (k : ℕ). AreModels (points_at keys (segments_of levels) k) (eps_at eps eps_rec k)
          (length (xs_at keys (segments_of levels) k)) level.segments.items level.models.items)
          (sym last) own_models))
    ]

    kept : (i : ℕ) (d : Level) → 0 < i → i < length levels + 1 →
        (slice_index_or (levels ++ level ∷ []) i d).xs.items
        ≡ xs_at keys (segments_of levels ++ level.segments.items ∷ []) i
    kept i d upper inside = elim (cases_lt i (length levels)) [
      | inl before ↦
          let is = get_or_append_left levels (level ∷ []) d i before in
          ap (λ (l : Level). l.xs.items) is ∙ so_far.kept i d upper before ∙ xs_at-same keys
          (segments_of levels) (segments_of levels ++ level.segments.items ∷ []) i (same i (omega arith))
      | inr from ↦
          let last : i ≡ length levels = omega arith in
          let is : slice_index_or (levels ++ level ∷ []) i d ≡ level =
          ap (λ (k : ℕ). slice_index_or (levels ++ level ∷ []) k d) last ∙ get_or-append_seam levels level [] d in
          ap (λ (l : Level). l.xs.items) is ∙ xs (omega arith) ∙ ap (xs_at keys (segments_of levels)) (sym last)
          ∙ xs_at-same keys
          (segments_of levels) (segments_of levels ++ level.segments.items ∷ []) i (same i (omega arith))
    ]

pub level_at-pushed : (levels : List Level) (level : Level) (i : ℕ) →
    i ≡ length levels → level_at (segments_of (levels ++ level ∷ [])) i ≡ level.segments.items
level_at-pushed levels level i last =
    rw (segments_of-push levels level)
    (sym (level_at-last (segments_of levels) level.segments.items i (omega (arith, segments_of-count levels))))

pub level_at-before : (levels : List Level) (level : Level) (i : ℕ) →
    i < length levels → level_at (segments_of (levels ++ level ∷ [])) i ≡ level_at (segments_of levels) i
level_at-before levels level i before =
    rw (segments_of-push levels level)
    (sym (level_at-below (segments_of levels) level.segments.items i (omega (arith, segments_of-count levels))))

-- all levels
pub AreStored-in : (keys : List ℕ) (eps eps_rec : ℕ) (levels : List Level) →
    AreLevels keys eps eps_rec levels → 0 < length keys → 0 < length levels →
    ((i : ℕ) → i + 1 ≡ length levels → length (level_at (segments_of levels) i) ≡ 1) → AreStored keys eps eps_rec levels
AreStored-in keys eps eps_rec levels all some above one =
    let total = segments_of-count levels in
    record {
      first = all;
      index = record {
        none = λ empty. absurd (omega arith);
        some = λ key. omega (arith, total);
        each = λ i inside. all.each i (omega (arith, total, inside));
        last = λ i at. one i (omega (arith, total, at));
        others = λ i inside. all.others i (omega (arith, total, inside));
      };
    }

-- ---- the list of the next level

pub ascends_next : (keys : List ℕ) (eps eps_rec : ℕ) (levels : List Level) →
    AreLevels keys eps eps_rec levels → (i : ℕ) → i ≤ length levels → AscendsAt keys (segments_of levels) i
ascends_next keys eps eps_rec levels all i within =
    ascends_at keys eps eps_rec (segments_of levels) all.never_falls i (λ k less. all.each k (omega arith))

-- above a level with more runs than one there are fewer runs
pub fewer_above : (keys : List ℕ) (eps eps_rec : ℕ) (levels : List Level) (runs : ℕ) (segments : List Segment) →
    AreLevels keys eps eps_rec levels → 0 < length keys → 0 < length levels →
    ((i : ℕ) → i + 1 ≡ length levels → length (level_at (segments_of levels) i) ≡ runs) → runs ≢ 1 →
    IsSegmentation (points_at keys (segments_of levels) (length levels))
    (eps_at eps eps_rec (length levels)) 0 (length (xs_at keys (segments_of levels) (length levels))) segments →
    length segments < runs
fewer_above keys eps eps_rec levels runs segments all some above last more level =
    let old = segments_of levels in
    let n = length levels in
    let below = ascends_next keys eps eps_rec levels all n (omega arith) in
    let fewer = fewer_runs (points_at keys old n) (eps_at eps eps_rec n) segments below.ascends level.greedy in
    let points = some_at keys eps eps_rec old all.never_falls some n (λ k less. all.each k less) in
    let at : n - 1 + 1 ≡ n = omega arith in
    let list : length (xs_at keys old n) ≡ runs = ap (λ (k : ℕ). length (xs_at keys old k)) (sym at)
    ∙ xs_at-length keys old (n - 1) ∙ last (n - 1) at in
    omega (arith, list, fewer, points, more)

-- ---- how many places there are

pub places_below-same : (keys : List ℕ) (levels others : List (List Segment)) (n : ℕ) →
    ((k : ℕ) → k < n → level_at levels k ≡ level_at others k) →
    places_below keys levels n ≡ places_below keys others n
unfolding places_below
places_below-same keys levels others zero same = refl
places_below-same keys levels others (suc n) same =
    omega (
      arith,
      places_below-same keys levels others n (λ k less. same k (omega arith)),
      ap length (xs_at-same keys levels others n (λ k less. same k (omega arith))),
    )

places_below-more : (keys : List ℕ) (levels : List (List Segment)) (n : ℕ) →
    places_below keys levels (n + 1) ≡ places_below keys levels n + length (xs_at keys levels n)
unfolding places_below
places_below-more keys levels n = rw add-one refl

pub places_below-push : (keys : List ℕ) (levels : List Level) (level : Level) →
    places_below keys (segments_of (levels ++ level ∷ [])) (length levels + 1) ≡ places_below keys
    (segments_of levels) (length levels) + length (xs_at keys (segments_of levels) (length levels))
places_below-push keys levels level =
    let same : (k : ℕ) → k < length levels → level_at (segments_of levels) k
    ≡ level_at (segments_of (levels ++ level ∷ [])) k =
    λ k less. level_at-below (segments_of levels) level.segments.items k (omega (arith, segments_of-count levels))
    ∙ ap (λ (segments : List (List Segment)). level_at segments k) (sym (segments_of-push levels level)) in
    omega (
      arith,
      places_below-more keys (segments_of (levels ++ level ∷ [])) (length levels),
      places_below-same keys (segments_of levels) (segments_of (levels ++ level ∷ [])) (length levels) same,
      ap length (xs_at-same keys (segments_of levels) (segments_of (levels ++ level ∷ [])) (length levels) same),
    )

pub places_below-base : (keys : List ℕ) (level : Level) →
    places_below keys (segments_of (level ∷ [])) 1 ≡ length (xs_of keys)
unfolding places_below
places_below-base keys level = omega (arith, ap length (xs_at-base keys (segments_of (level ∷ []))))

-- ---- the level above the last one

pub eps_at-bounded : (eps eps_rec i : ℕ) → eps ≤ 1048576 → eps_rec ≤ 1048576 → eps_at eps eps_rec i ≤ 1048576
eps_at-bounded eps eps_rec i low high = grind (arith, nat_tests)

pub eps_at-above : (eps eps_rec i : ℕ) → 0 < i → eps_rec ≡ eps_at eps eps_rec i
eps_at-above eps eps_rec i above = grind (arith, nat_tests)

base_level : (keys : List ℕ) (eps eps_rec : ℕ) (levels : List Level) (segments : List Segment) → length levels ≡ 0 →
    IsLaid (points_of (xs_of keys) (ys_of keys)) eps 0 (length (xs_of keys)) segments →
    IsLaid (points_at keys (segments_of levels) (length levels))
    (eps_at eps eps_rec (length levels)) 0 (length (xs_at keys (segments_of levels) (length levels))) segments
base_level keys eps eps_rec levels segments none laid =
    rw (none, xs_at-base keys (segments_of levels), ys_at-base keys (segments_of levels)) laid

pub above_xs : (keys : List ℕ) (levels : List Level)
    (below : ℕ) (level : Level) (list xs : List ℕ) (segments : List Segment) → below + 1 ≡ length levels →
    level ≡ slice_index_or levels below level →
    segments ≡ level.segments.items → list ≡ xs_at keys (segments_of levels) below → xs ≡ first_xs list segments →
    xs ≡ xs_at keys (segments_of levels) (length levels)
above_xs keys levels below level list xs segments last at segments_are list_is is =
    let own : segments ≡ level_at (segments_of levels) below =
    segments_are ∙ ap (λ (l : Level). l.segments.items) at ∙ sym (level_at-kept levels below level (omega arith)) in
    is ∙ ap (λ (xs : List ℕ). first_xs xs segments) list_is ∙ ap (first_xs (xs_at keys (segments_of levels) below)) own
    ∙ sym (xs_at-above keys (segments_of levels) below) ∙ ap (xs_at keys (segments_of levels)) last

pub above_ys : (keys : List ℕ) (levels : List Level) (below : ℕ) (xs ys : List ℕ) →
    below + 1 ≡ length levels → xs ≡ xs_at keys (segments_of levels) (length levels) →
    ys ≡ places (length xs) → ys ≡ ys_at keys (segments_of levels) (length levels)
above_ys keys levels below xs ys last xs_are is =
    is ∙ ap (λ (xs : List ℕ). places (length xs)) (xs_are ∙ ap (xs_at keys (segments_of levels)) (sym last))
    ∙ ap places (xs_at-length keys (segments_of levels) below)
    ∙ sym (ys_at-above keys (segments_of levels) below) ∙ ap (ys_at keys (segments_of levels)) last

pub above_level : (keys : List ℕ) (eps eps_rec : ℕ) (levels : List Level) (xs ys : List ℕ) (segments : List Segment) →
    0 < length levels →
    xs ≡ xs_at keys (segments_of levels) (length levels) → ys ≡ ys_at keys (segments_of levels) (length levels) →
    IsSegmentation (points_of xs ys) eps_rec 0 (length xs) segments →
    IsSegmentation (points_at keys (segments_of levels) (length levels))
    (eps_at eps eps_rec (length levels)) 0 (length (xs_at keys (segments_of levels) (length levels))) segments
above_level keys eps eps_rec levels xs ys segments above xs_are ys_are level =
    subst (λ (e : ℕ). IsSegmentation (points_at keys (segments_of levels) (length levels)) e 0
    (length (xs_at keys (segments_of levels) (length levels))) segments)
    (eps_at-above eps eps_rec (length levels) above)
    (subst (λ (ys : List ℕ). IsSegmentation (points_of (xs_at keys (segments_of levels) (length levels)) ys) eps_rec 0
    (length (xs_at keys (segments_of levels) (length levels))) segments) ys_are
    (subst (λ (xs : List ℕ). IsSegmentation (points_of xs ys) eps_rec 0 (length xs) segments) xs_are level))

-- the models of the next level, by the lists at hand
pub level_models : (keys : List ℕ) (eps eps_rec : ℕ)
    (levels : List Level) (xs ys : List ℕ) (bound : ℕ) (segments : List Segment) (models : List RunModel) →
    xs ≡ xs_at keys (segments_of levels) (length levels) →
    ys ≡ ys_at keys (segments_of levels) (length levels) → bound ≡ eps_at eps eps_rec (length levels) →
    AreModels (points_of xs ys) bound (length xs) segments models →
    AreModels (points_at keys (segments_of levels) (length levels))
    (eps_at eps eps_rec (length levels)) (length (xs_at keys (segments_of levels) (length levels))) segments models
level_models keys eps eps_rec levels xs ys bound segments models xs_are ys_are is own =
    subst (λ (e : ℕ). AreModels (points_at keys (segments_of levels) (length levels)) e
    (length (xs_at keys (segments_of levels) (length levels))) segments models) is
    (subst (λ (ys : List ℕ). AreModels (points_of (xs_at keys (segments_of levels) (length levels)) ys) bound
    (length (xs_at keys (segments_of levels) (length levels))) segments models) ys_are
    (subst (λ (xs : List ℕ). AreModels (points_of xs ys) bound (length xs) segments models) xs_are own))

base_xs : (keys : List ℕ) (levels : List Level) (xs : List ℕ) →
    length levels ≡ 0 → xs ≡ xs_of keys → xs ≡ xs_at keys (segments_of levels) (length levels)
base_xs keys levels xs none is =
    is ∙ sym (xs_at-base keys (segments_of levels)) ∙ ap (xs_at keys (segments_of levels)) (sym none)

base_ys : (keys : List ℕ) (levels : List Level) (ys : List ℕ) →
    length levels ≡ 0 → ys ≡ ys_of keys → ys ≡ ys_at keys (segments_of levels) (length levels)
base_ys keys levels ys none is =
    is ∙ sym (ys_at-base keys (segments_of levels)) ∙ ap (ys_at keys (segments_of levels)) (sym none)

eps_at-base : (eps eps_rec i : ℕ) → i ≡ 0 → eps ≡ eps_at eps eps_rec i
eps_at-base eps eps_rec i base = grind (arith, nat_tests)

-- level 0 by itself
pub AreLevels-base : (keys : List ℕ) (eps eps_rec : ℕ) (level : Level) →
    IsNonDecreasing keys → length keys < 2 ^ 32 → eps ≤ 1048576 → eps_rec ≤ 1048576 →
    IsLaid (points_of (xs_of keys) (ys_of keys)) eps 0 (length (xs_of keys)) level.segments.items →
    AreModels (points_of (xs_of keys) (ys_of keys)) eps (length (xs_of keys)) level.segments.items level.models.items →
    AreLevels keys eps eps_rec (level ∷ [])
AreLevels-base keys eps eps_rec level order few bounded bounded_rec segments models =
    AreLevels-push keys eps eps_rec [] level none (λ i last. absurd (omega arith))
    (base_level keys eps eps_rec [] level.segments.items refl segments) (λ some. absurd (omega arith))
    (level_models keys eps eps_rec [] (xs_of keys) (ys_of keys) eps level.segments.items level.models.items
    (base_xs keys [] (xs_of keys) refl refl) (base_ys keys [] (ys_of keys) refl refl)
    (eps_at-base eps eps_rec 0 refl) models) (λ some. absurd (omega arith))
  where
    none : AreLevels keys eps eps_rec []
    none = record {
      never_falls = order;
      few = few;
      bounded = bounded;
      bounded_rec = bounded_rec;
      each = λ i inside. absurd (omega arith);
      others = λ i inside. absurd (omega arith);
      models = λ i d inside. absurd (omega arith);
      kept = λ i d above inside. absurd (omega arith);
    }

-- the runs start in the list
pub starts_inside : (keys : List ℕ) (eps eps_rec : ℕ) (levels : List Level)
    (below : ℕ) (level : Level) (list : List ℕ) (segments : List Segment) → AreLevels keys eps eps_rec levels →
    below < length levels → level ≡ slice_index_or levels below level →
    segments ≡ level.segments.items → list ≡ xs_at keys (segments_of levels) below →
    (k : ℕ) (d : Segment) → k < length segments → (slice_index_or segments k d).start < length list
starts_inside keys eps eps_rec levels below level list segments all inside at segments_are list_is k d place =
    let own : segments ≡ level_at (segments_of levels) below =
    segments_are ∙ ap (λ (l : Level). l.segments.items) at ∙ sym (level_at-kept levels below level inside) in
    let here = all.each below inside in
    let p = points_at keys (segments_of levels) below in
    let e = eps_at eps eps_rec below in
    let run = run_at (IsSteepSegment p e) (SomeLineFits p e) 0 p.count
    (level_at (segments_of levels) below) k d (omega (arith, ap length own)) here.laid.cover here.laid.steep in
    omega (arith, run.some, run.within, ap (λ (s : List Segment). (slice_index_or s k d).start) own, ap length list_is)

-- the same by the lists themselves
pub ascends_list : (keys : List ℕ) (eps eps_rec : ℕ) (levels : List Level) (xs ys : List ℕ) →
    AreLevels keys eps eps_rec levels →
    xs ≡ xs_at keys (segments_of levels) (length levels) → ys ≡ ys_at keys (segments_of levels) (length levels) →
    (length ys ≡ length xs) × IsStrictlyIncreasing xs × IsNonDecreasing ys × (length xs < 2 ^ 32)
ascends_list keys eps eps_rec levels xs ys all xs_are ys_are =
    let here = ascends_next keys eps eps_rec levels all (length levels) (omega arith) in (
      omega (arith, ap length xs_are, ap length ys_are, here.same_length),
      subst IsStrictlyIncreasing (sym xs_are) here.rises,
      subst IsNonDecreasing (sym ys_are) here.never_falls,
      omega (arith, ap length xs_are, here.few, all.few),
    )

-- ---- what is known of each level

-- a level below the last one has two runs or more
several_runs : (keys : List ℕ) (eps eps_rec : ℕ) (levels : List Level) →
    AreLevels keys eps eps_rec levels → 0 < length keys → (i : ℕ) → i + 1 < length levels →
    2 ≤ length (level_at (segments_of levels) i)
several_runs keys eps eps_rec levels all some i inside =
    let segments = segments_of levels in
    let points = some_at keys eps eps_rec segments all.never_falls some (i + 1) (λ k less. all.each k (omega arith)) in
    omega (arith, points, xs_at-length keys segments i, all.others i inside)

-- above level 0 each list is shorter than the one below, so that there are no more levels than keys
list_and_place : (keys : List ℕ) (eps eps_rec : ℕ) (levels : List Level) →
    AreLevels keys eps eps_rec levels → 0 < length keys → (i : ℕ) → i + 1 < length levels →
    length (level_at (segments_of levels) i) + i ≤ length keys
list_and_place keys eps eps_rec levels all some zero inside =
    let segments = segments_of levels in
    let here = ascends_next keys eps eps_rec levels all 0 (omega arith) in
    let p = points_at keys segments 0 in
    let runs = runs_within
    (SomeLineFits p (eps_at eps eps_rec 0)) p.count (level_at segments 0) (all.each 0 (omega arith)).laid.cover in
    omega (arith, here.few, runs.0)
list_and_place keys eps eps_rec levels all some (suc i) inside =
    let segments = segments_of levels in
    let here = ascends_next keys eps eps_rec levels all (suc i) (omega arith) in
    let level = (all.each (suc i) (omega arith)).above (omega arith) in
    let runs = fewer_runs (points_at keys segments (suc i))
    (eps_at eps eps_rec (suc i)) (level_at segments (suc i)) here.ascends level.greedy in
    omega (
      arith,
      list_and_place keys eps eps_rec levels all some i (omega arith),
      runs,
      several_runs keys eps eps_rec levels all some (suc i) inside,
      xs_at-length keys segments i,
      ap (λ (k : ℕ). length (xs_at keys segments k)) (add-one i),
    )

pub levels_few : (keys : List ℕ) (eps eps_rec : ℕ) (levels : List Level) →
    AreStored keys eps eps_rec levels → length levels ≤ length keys
levels_few keys eps eps_rec levels stored = elim (cases_eq (length keys) 0) [
  | inl none ↦ omega (arith, segments_of-count levels, stored.index.none none)
  | inr key ↦ elim (cases_lt 1 (length levels)) [
    | inr single ↦ omega arith
    | inl several ↦
        let below = length levels - 2 in
        let some : 0 < length keys = omega arith in
        omega (
          arith,
          list_and_place keys eps eps_rec levels stored.first some below (omega arith),
          several_runs keys eps eps_rec levels stored.first some below (omega arith),
        )
  ]
]
