-- Saved levels that are right so far, from the lowest on: what the
-- one index has in common with them, and where it then differs.
--
-- Main results: `IsWrongAt-unlike`, `IsWrongAt-past` and
-- `IsSavedIndexOf-from_right`, and with `AreRightBelow-more` one more level.
use Rattle.std.proofs.Common.{◌≡◌, ℕ, zero, suc, ◌+◌, ◌-◌, ◌<◌, ◌≤◌, List, [], ◌∷◌, ◌++◌, length, map, None}
use Rattle.std.proofs.Common.{Some, inl, inr, refl, sym, ap, ◌∙◌, subst, arith, add-one, length-append}
use Rattle.std.specs.Prelude.{slice_get, slice_index, slice_index_or}
use Rattle.std.specs.Option.{option_map}
use Rattle.std.specs.List.Sorted.{IsStrictlyIncreasing}
use Rattle.std.proofs.lemmas.Bool.{cases_lt, cases_eq}
use Rattle.std.proofs.lemmas.Bool.Decides.{nat_tests}
use Rattle.std.proofs.lemmas.List.{length-map, get_or_append_left}
use Rattle.std.proofs.Math.Seq.{get_or-append_seam}
use Rattle.std.proofs.lemmas.Option.{slice_get_past, slice_get_within}
use Rattle.std.proofs.lemmas.Option.{get_or_from_slice_get, slice_get-get_or, slice_get-map}
use Rattle.exact_cross.specs.declared.segment.Segment.{Segment}
use Rattle.exact_cross.specs.Points.{Points, points_of, places}
use Rattle.exact_cross.specs.Covers.{run_end, CutsInto, IsLongest}
use Rattle.exact_cross.specs.Segments.{starts_of}
use Rattle.exact_cross.specs.Segmentation.{IsSegmentation}
use Rattle.exact_cross.specs.IndexLevels.{first_xs, level_at, level_xs, level_ys}
use Rattle.exact_cross.specs.IndexLevels.{level_points, eps_at, IsLevelOver, IsIndexOver}
use Rattle.exact_cross.proofs.CallerLemmas.{CutsInto-rises, slice_index-rises}
use Rattle.exact_cross.proofs.Unique.{IsSegmentation-unique}
use Rattle.exact_cross.proofs.LevelPoints.{level_xs-above, level_xs-same, level_ys-same, AreLevelled-unique}
use Rattle.index_file.specs.declared.saved.SavedRun.{SavedRun}
use Rattle.index_file.specs.Spelling.{SavedIndex}
use Rattle.index_file.specs.Spelled.{saved_run}
use Rattle.index_file.specs.Checks.{saved_levels, IsSavedIndexOf, IsFirstDifference, IsWrongAt}
use Rattle.index_file.specs.Judged.{IsSavedSegmentation, start_xs}

-- ---- the x of a level above

-- one x before others that rise
rises-cons : (first : ℕ) (later : List ℕ) →
    IsStrictlyIncreasing later → (0 < length later → first < slice_index later 0) → IsStrictlyIncreasing (first ∷ later)
rises-cons first later rises below = step
  where
    step : (k : ℕ) →
        k + 1 < length (first ∷ later) → slice_index (first ∷ later) k < slice_index (first ∷ later) (k + 1)
    step zero inside = below (omega arith)
    step (suc k) inside =
        let shift : suc k + 1 ≡ suc (k + 1) = omega arith in
        rw shift (rises k (omega arith))

-- the x of the runs' starts rise
first_xs-rise : (R : ℕ → ℕ → Type 0) (xs : List ℕ) (from to : ℕ) (segments : List Segment) →
    IsStrictlyIncreasing xs → to ≤ length xs → CutsInto R from to (starts_of segments) →
    IsStrictlyIncreasing (first_xs xs segments)
first_xs-rise R xs from to [] rises within cuts = λ k inside. absurd (omega arith)
first_xs-rise R xs from to (segment ∷ []) rises within cuts = λ k inside. absurd (omega arith)
first_xs-rise R xs from to (segment ∷ next ∷ later) rises within cuts =
    rises-cons (slice_index xs segment.start)
    (first_xs xs (next ∷ later)) (first_xs-rise R xs next.start to (next ∷ later) rises within cuts.3)
    (λ _. slice_index-rises xs segment.start next.start rises (omega (arith, cuts.0, cuts.1))
    (omega (arith, within, cuts.3.1, CutsInto-rises R (starts_of later) (run_end (starts_of later) to) to cuts.3.3)))

pub runs_within : (R : ℕ → ℕ → Type 0) (from to : ℕ) (segments : List Segment) →
    CutsInto R from to (starts_of segments) → length segments + from ≤ to
runs_within R from to [] cuts = omega (arith, cuts)
runs_within R from to (segment ∷ later) cuts =
    omega (arith, cuts.1, runs_within R (run_end (starts_of later) to) to later cuts.3)

start_xs-saved : (xs : List ℕ) (segments : List Segment) → start_xs xs (map saved_run segments) ≡ first_xs xs segments
start_xs-saved xs [] = refl
start_xs-saved xs (segment ∷ later) = ap (λ (l : List ℕ). slice_index xs segment.start ∷ l) (start_xs-saved xs later)

-- ---- saved levels by their numbers

saved_at : (levels : List (List Segment)) (k : ℕ) →
    k < length levels → slice_get (saved_levels levels) k ≡ Some (map saved_run (level_at levels k))
saved_at levels k inside =
    let save : List Segment → List SavedRun = λ segments. map saved_run segments in
    slice_get-map save levels k ∙ ap (option_map save) (slice_get-get_or levels k [] inside)

saved_past : (levels : List (List Segment)) (k : ℕ) → length levels ≤ k → slice_get (saved_levels levels) k ≡ None
saved_past levels k past = slice_get_past (saved_levels levels) k (rw length-map past)

ext_slice_get : (one two : List (List SavedRun)) → ((k : ℕ) → slice_get one k ≡ slice_get two k) → one ≡ two
ext_slice_get [] [] same = refl
ext_slice_get [] (level ∷ later) same = let first = same 0 in cc
ext_slice_get (level ∷ later) [] same = let first = same 0 in cc
ext_slice_get (level ∷ later) (other ∷ others) same =
    let first = same 0 in
    let rest = ext_slice_get later others (λ k. same (suc k)) in
    cc

-- ---- levels that are right so far

-- the y of level i, over this list of x
abbrev pub heights : List ℕ → ℕ → List ℕ → List ℕ
heights ys zero list = ys
heights ys (suc i) list = places (length list)

-- the saved levels below i are those of points, none but the
-- last of them has one run, and the list has the x of level i
pub record AreRightBelow (xs ys : List ℕ) (saved : SavedIndex) (i : ℕ) (list : List ℕ) : Type 0 where
  pub levels : List (List Segment)
  pub count : length levels ≡ i
  pub spelled : (k : ℕ) → k < i → slice_get saved.levels k ≡ Some (map saved_run (level_at levels k))
  pub each : (k : ℕ) → k < i → IsLevelOver xs ys saved.eps saved.eps_rec levels k
  pub others : (k : ℕ) → k + 1 < i → length (level_at levels k) ≡ 1 → ⊥
  pub is : list ≡ level_xs xs levels i
  pub last : (k : ℕ) → k + 1 ≡ i → length list ≡ length (level_at levels k)
  pub rises : IsStrictlyIncreasing list
  pub few : length list ≤ length xs

heights_are : (xs ys : List ℕ) (saved : SavedIndex) (i : ℕ) (list : List ℕ) (right : AreRightBelow xs ys saved i list) →
    level_ys ys right.levels i ≡ heights ys i list
unfolding level_ys
heights_are xs ys saved zero list right = refl
heights_are xs ys saved (suc i) list right = ap places (sym (right.last i (add-one i)))

-- levels that are the same below k have the same points at k
points_same : (xs ys : List ℕ) (one two : List (List Segment)) (k : ℕ) →
    ((l : ℕ) → l < k → level_at one l ≡ level_at two l) → level_points xs ys one k ≡ level_points xs ys two k
points_same xs ys one two k same =
    ap (λ (l : List ℕ). points_of l (level_ys ys one k)) (level_xs-same xs one two k same)
    ∙ ap (λ (l : List ℕ). points_of (level_xs xs two k) l) (level_ys-same ys one two k same)

-- so those that are right below i and any others that are the same there stand on the list at i
points_are : (xs ys : List ℕ) (saved : SavedIndex)
    (i : ℕ) (list : List ℕ) (right : AreRightBelow xs ys saved i list) (levels : List (List Segment)) →
    ((k : ℕ) → k < i → level_at right.levels k ≡ level_at levels k) →
    level_points xs ys levels i ≡ points_of list (heights ys i list)
points_are xs ys saved i list right levels same =
    sym (points_same xs ys right.levels levels i same)
    ∙ (ap (λ (l : List ℕ). points_of l (level_ys ys right.levels i)) (sym right.is)
    ∙ ap (λ (l : List ℕ). points_of list l) (heights_are xs ys saved i list right))

-- a level over its points, by other levels below it and by another name
moved : (xs ys : List ℕ) (eps eps_rec : ℕ) (one two : List (List Segment)) (k : ℕ) →
    ((l : ℕ) → l < k → level_at one l ≡ level_at two l) → IsLevelOver xs ys eps eps_rec one k →
    IsSegmentation (level_points xs ys two k) (eps_at eps eps_rec k) 0 (length (level_xs xs two k)) (level_at one k)
moved xs ys eps eps_rec one two k same level =
    subst (λ (p : Points). IsSegmentation p (eps_at eps eps_rec k) 0 p.count (level_at one k))
    (points_same xs ys one two k same) level

-- two lists of levels, the second one an index: where they are the same below k, level k is
level_agrees : (xs ys : List ℕ) (eps eps_rec : ℕ) (one two : List (List Segment)) (k : ℕ) →
    ((l : ℕ) → l < k → level_at one l ≡ level_at two l) →
    IsLevelOver xs ys eps eps_rec one k → IsLevelOver xs ys eps eps_rec two k → level_at one k ≡ level_at two k
level_agrees xs ys eps eps_rec one two k same first second =
    IsSegmentation-unique (level_points xs ys two k) (eps_at eps eps_rec k) 0 (length (level_xs xs two k))
    (level_at one k) (level_at two k) (moved xs ys eps eps_rec one two k same first) second

pub IsIndexOver-unique : (xs ys : List ℕ) (eps eps_rec : ℕ) (one two : List (List Segment)) →
    IsIndexOver xs ys eps eps_rec one → IsIndexOver xs ys eps eps_rec two → one ≡ two
IsIndexOver-unique xs ys eps eps_rec one two first second =
    AreLevelled-unique (λ i. IsLevelOver xs ys eps eps_rec one i)
    (λ i. IsLevelOver xs ys eps eps_rec two i) (length xs) one two first second
    (λ i own other below. level_agrees xs ys eps eps_rec one two i below own other)

-- an index goes on from a level of more than one run
goes_on : (xs ys : List ℕ) (eps eps_rec : ℕ) (levels : List (List Segment)) (n : ℕ) →
    IsIndexOver xs ys eps eps_rec levels → 0 < length xs → n ≤ length levels →
    (0 < n → length (level_at levels (n - 1)) ≡ 1 → ⊥) → n < length levels
goes_on xs ys eps eps_rec levels n index some within more = elim (cases_lt n (length levels)) [
  | inl less ↦ less
  | inr past ↦ elim (cases_eq n 0) [
    | inl none ↦ absurd (omega (arith, index.some some))
    | inr above ↦ absurd (more (omega arith) (index.last (n - 1) (omega arith)))
  ]
]

-- the index has the levels that are right
reaches : (xs ys : List ℕ) (saved : SavedIndex)
    (i : ℕ) (list : List ℕ) (right : AreRightBelow xs ys saved i list) (levels : List (List Segment)) → 0 < length xs →
    IsIndexOver xs ys saved.eps saved.eps_rec levels →
    (n : ℕ) → n ≤ i → (n ≤ length levels) × ((k : ℕ) → k < n → level_at right.levels k ≡ level_at levels k)
reaches xs ys saved i list right levels some index zero within = (omega arith, λ k less. absurd (omega arith))
reaches xs ys saved i list right levels some index (suc n) within =
    let below = reaches xs ys saved i list right levels some index n (omega arith) in
    let more : n < length levels = goes_on xs ys saved.eps saved.eps_rec levels n index some below.0
    (λ above one. right.others (n - 1) (omega arith) (ap length (below.1 (n - 1) (omega arith)) ∙ one)) in
    let here : level_at right.levels n ≡ level_at levels n = level_agrees xs
    ys saved.eps saved.eps_rec right.levels levels n below.1 (right.each n (omega arith)) (index.each n more) in (
      omega arith,
      λ k less. elim (cases_eq k n) [
        | inl same ↦ subst (λ (l : ℕ). level_at right.levels l ≡ level_at levels l) (sym same) here
        | inr apart ↦ below.1 k (omega arith)
      ],
    )

same_below : (xs ys : List ℕ) (saved : SavedIndex)
    (i : ℕ) (list : List ℕ) (right : AreRightBelow xs ys saved i list) (levels : List (List Segment)) → 0 < length xs →
    IsIndexOver xs ys saved.eps saved.eps_rec levels →
    (k : ℕ) → k < i → slice_get saved.levels k ≡ slice_get (saved_levels levels) k
same_below xs ys saved i list right levels some index k less =
    let below = reaches xs ys saved i list right levels some index i (omega arith) in
    right.spelled k less
    ∙ (ap (λ (segments : List Segment). Some (map saved_run segments)) (below.1 k less)
    ∙ sym (saved_at levels k (omega (arith, below.0))))

-- ---- wrong, and right

-- level i of the saved index is missing or isn't that of its points, and the levels below don't end there
pub IsWrongAt-unlike : (xs ys : List ℕ) (saved : SavedIndex) (i : ℕ) (list : List ℕ) →
    AreRightBelow xs ys saved i list → 0 < length xs → (0 < i → length list ≡ 1 → ⊥) →
    (i < length saved.levels → IsSavedSegmentation (points_of list (heights ys i list))
    (eps_at saved.eps saved.eps_rec i) (slice_index_or saved.levels i []) → ⊥) →
    IsWrongAt xs ys saved i
IsWrongAt-unlike xs ys saved i list right some more unlike = λ levels index. record {
  same = same_below xs ys saved i list right levels some index;
  differs = λ equal.
      let below = reaches xs ys saved i list right levels some index i (omega arith) in
      let inside : i < length levels = goes_on xs ys saved.eps saved.eps_rec levels i index some below.0
      (λ above one.
      more above (right.last (i - 1) (omega arith) ∙ (ap length (below.1 (i - 1) (omega arith)) ∙ one))) in
      let stands : slice_get saved.levels i ≡ Some (map saved_run (level_at levels i)) = equal
      ∙ saved_at levels i inside in
      unlike (slice_get_within saved.levels i (map saved_run (level_at levels i)) stands) (record {
        segments = level_at levels i;
        segmentation =
            subst (λ (p : Points). IsSegmentation p (eps_at saved.eps saved.eps_rec i) 0 p.count (level_at levels i))
            (points_are xs ys saved i list right levels below.1) (index.each i inside);
        same = get_or_from_slice_get saved.levels i (map saved_run (level_at levels i)) [] stands;
      });
}

-- the saved index goes on where the levels below end
pub IsWrongAt-past : (xs ys : List ℕ) (saved : SavedIndex) (i : ℕ) (list : List ℕ) →
    AreRightBelow xs ys saved i list → 0 < length xs → 0 < i → length list ≡ 1 → i < length saved.levels →
    IsWrongAt xs ys saved i
IsWrongAt-past xs ys saved i list right some above one inside = λ levels index. record {
  same = same_below xs ys saved i list right levels some index;
  differs = λ equal.
      let below = reaches xs ys saved i list right levels some index i (omega arith) in
      let single : length (level_at levels (i - 1)) ≡ 1 = ap length (sym (below.1 (i - 1) (omega arith)))
      ∙ (sym (right.last (i - 1) (omega arith)) ∙ one) in
      let there = slice_get-get_or saved.levels i [] inside in
      elim (cases_lt i (length levels)) [
        | inl less ↦ index.others (i - 1) (omega arith) single
        | inr past ↦ let missing = saved_past levels i past in absurd (cc (there, missing, equal))
      ];
}

pub IsSavedIndexOf-from_right : (xs ys : List ℕ) (saved : SavedIndex) (i : ℕ) (list : List ℕ) →
    AreRightBelow xs ys saved i list → 0 < length xs → 0 < i → length list ≡ 1 → i ≡ length saved.levels →
    IsSavedIndexOf xs ys saved
IsSavedIndexOf-from_right xs ys saved i list right some above one all = record {
  levels = right.levels;
  index = record {
    none = λ empty. absurd (omega arith);
    some = λ _. omega (arith, right.count);
    each = λ k inside. right.each k (omega (arith, right.count));
    last = λ k at_end. sym (right.last k (omega (arith, right.count))) ∙ one;
    others = λ k inside. right.others k (omega (arith, right.count));
  };
  same = ext_slice_get saved.levels (saved_levels right.levels) (λ k. elim (cases_lt k i) [
    | inl less ↦ right.spelled k less ∙ sym (saved_at right.levels k (omega (arith, right.count)))
    | inr past ↦ slice_get_past saved.levels k (omega arith)
        ∙ sym (saved_past right.levels k (omega (arith, right.count)))
  ]);
}

-- ---- from level to level

pub AreRightBelow-none : (xs ys : List ℕ) (saved : SavedIndex) →
    IsStrictlyIncreasing xs → AreRightBelow xs ys saved 0 xs
unfolding level_xs
AreRightBelow-none xs ys saved rises = record {
  levels = [];
  count = refl;
  spelled = λ k less. absurd (omega arith);
  each = λ k less. absurd (omega arith);
  others = λ k less one. omega arith;
  is = refl;
  last = λ k at_end. absurd (omega arith);
  rises = rises;
  few = omega arith;
}

pub AreRightBelow-more : (xs ys : List ℕ) (saved : SavedIndex) (i : ℕ) (list next : List ℕ) →
    AreRightBelow xs ys saved i list → i < length saved.levels → (0 < i → length list ≡ 1 → ⊥) →
    IsSavedSegmentation (points_of list (heights ys i list)) (eps_at saved.eps saved.eps_rec i)
    (slice_index_or saved.levels i []) → next ≡ start_xs list (slice_index_or saved.levels i []) →
    AreRightBelow xs ys saved (i + 1) next
AreRightBelow-more xs ys saved i list next right inside more level next_is = record {
  levels = grown;
  count = omega (arith, right.count, length-append right.levels (segments ∷ []));
  spelled = spelled;
  each = each;
  others = others;
  is = next_first
      ∙ (ap (λ (l : List ℕ). first_xs l segments) list_is
      ∙ (ap (first_xs (level_xs xs grown i)) (sym here) ∙ sym (level_xs-above xs grown i)));
  last = λ k at_end.
      let last : k ≡ i = omega arith in
      ap length next_first ∙ (first_xs-count ∙ ap length (sym here ∙ ap (level_at grown) (sym last)));
  rises = subst IsStrictlyIncreasing (sym next_first)
      (first_xs-rise
      (IsLongest p eps p.count) list 0 (length list) segments right.rises (omega arith) level.segmentation.greedy);
  few = omega (
    arith,
    right.few,
    ap length next_first,
    first_xs-count,
    runs_within (IsLongest p eps p.count) 0 (length list) segments level.segmentation.greedy,
  );
}
  where
    segments : List Segment
    segments = level.segments

    grown : List (List Segment)
    grown = right.levels ++ level.segments ∷ []

    p : Points
    p = points_of list (heights ys i list)

    eps : ℕ
    eps = eps_at saved.eps saved.eps_rec i

    below : (k : ℕ) → k < i → level_at right.levels k ≡ level_at grown k
    below k less = sym (get_or_append_left right.levels (segments ∷ []) [] k (omega (arith, right.count)))

    here : level_at grown i ≡ segments
    here = subst (λ (k : ℕ). level_at grown k ≡ segments) right.count (get_or-append_seam right.levels segments [] [])

    points : level_points xs ys grown i ≡ p
    points = points_are xs ys saved i list right grown below

    list_is : list ≡ level_xs xs grown i
    list_is = right.is ∙ level_xs-same xs right.levels grown i below

    next_first : next ≡ first_xs list segments
    next_first = next_is ∙ (ap (start_xs list) level.same ∙ start_xs-saved list segments)

    first_xs-count : length (first_xs list segments) ≡ length segments
    first_xs-count = rw length-map refl

    spelled : (k : ℕ) → k < i + 1 → slice_get saved.levels k ≡ Some (map saved_run (level_at grown k))
    spelled k less = elim (cases_lt k i) [
      | inl lower ↦ right.spelled k lower ∙ ap (λ (s : List Segment). Some (map saved_run s)) (below k lower)
      | inr last ↦
          let at : i ≡ k = omega arith in
          subst (λ (l : ℕ). slice_get saved.levels l ≡ Some (map saved_run (level_at grown l))) at
          (slice_get-get_or saved.levels i [] inside
          ∙ (ap (λ (r : List SavedRun). Some r) level.same
          ∙ ap (λ (s : List Segment). Some (map saved_run s)) (sym here)))
    ]

    at_i : IsLevelOver xs ys saved.eps saved.eps_rec grown i
    at_i =
        subst (λ (s : List Segment). IsSegmentation (level_points xs ys grown i) eps 0 (length (level_xs xs grown i)) s)
        (sym here)
        (subst (λ (q : Points). IsSegmentation q eps 0 q.count segments) (sym points) level.segmentation)

    each : (k : ℕ) → k < i + 1 → IsLevelOver xs ys saved.eps saved.eps_rec grown k
    each k less = elim (cases_lt k i) [
      | inl lower ↦
          subst (λ (s : List Segment). IsSegmentation
          (level_points xs ys grown k) (eps_at saved.eps saved.eps_rec k) 0 (length (level_xs xs grown k)) s)
          (below k lower)
          (moved xs ys saved.eps saved.eps_rec right.levels grown k
          (λ l under. below l (omega arith)) (right.each k lower))
      | inr last ↦
          let at : i ≡ k = omega arith in
          subst (λ (l : ℕ). IsLevelOver xs ys saved.eps saved.eps_rec grown l) at at_i
    ]

    others : (k : ℕ) → k + 1 < i + 1 → length (level_at grown k) ≡ 1 → ⊥
    others k less one =
        let single : length (level_at right.levels k) ≡ 1 = ap length (below k (omega arith)) ∙ one in
        elim (cases_lt (k + 1) i) [
          | inl lower ↦ right.others k lower single
          | inr last ↦ more (omega arith) (right.last k (omega arith) ∙ single)
        ]

eps_at-above : (eps eps_rec i : ℕ) → 0 < i → eps_at eps eps_rec i ≡ eps_rec
eps_at-above eps eps_rec i above = grind (arith, nat_tests)

heights-above : (ys : List ℕ) (i : ℕ) (list : List ℕ) → 0 < i → heights ys i list ≡ places (length list)
heights-above ys zero list above = absurd (omega arith)
heights-above ys (suc i) list above = refl

-- a level above stands on the places, with the bound of the levels above
pub IsSavedSegmentation-above : (ys : List ℕ) (eps eps_rec i : ℕ) (list : List ℕ) (runs : List SavedRun) →
    0 < i → IsSavedSegmentation (points_of list (places (length list))) eps_rec runs →
    IsSavedSegmentation (points_of list (heights ys i list)) (eps_at eps eps_rec i) runs
IsSavedSegmentation-above ys eps eps_rec i list runs above level =
    subst (λ (l : List ℕ). IsSavedSegmentation (points_of list l) (eps_at eps eps_rec i) runs)
    (sym (heights-above ys i list above))
    (subst (λ (n : ℕ). IsSavedSegmentation (points_of list (places (length list))) n runs)
    (sym (eps_at-above eps eps_rec i above)) level)

pub places-from_above : (ys : List ℕ) (eps eps_rec i : ℕ) (list : List ℕ) (runs : List SavedRun) →
    0 < i → IsSavedSegmentation (points_of list (heights ys i list)) (eps_at eps eps_rec i) runs →
    IsSavedSegmentation (points_of list (places (length list))) eps_rec runs
places-from_above ys eps eps_rec i list runs above level =
    subst (λ (n : ℕ). IsSavedSegmentation (points_of list (places (length list))) n runs)
    (eps_at-above eps eps_rec i above)
    (subst (λ (l : List ℕ). IsSavedSegmentation (points_of list l) (eps_at eps eps_rec i) runs)
    (heights-above ys i list above) level)

-- ---- the other way

pub IsFirstDifference-unique : (one two : List (List SavedRun)) (i j : ℕ) →
    IsFirstDifference one two i → IsFirstDifference one two j → i ≡ j
IsFirstDifference-unique one two i j first second = elim (cases_lt i j) [
  | inl less ↦ absurd (first.differs (second.same i less))
  | inr past ↦ elim (cases_lt j i) [
    | inl less ↦ absurd (second.differs (first.same j less))
    | inr same ↦ omega arith
  ]
]
