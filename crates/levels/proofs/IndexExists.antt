-- Keys have an index: level upon level, each the segmentation of its points, until one has one run.
--
-- Main result: `IsIndex-some`. A level of two runs or more has
-- fewer runs than points, and its runs are the points of the next
-- level, so the levels end.
use Rattle.std.proofs.Common.{◌≡◌, ◌≢◌, inl, inr, ℕ, zero, suc, ◌+◌, ◌<◌, ◌≤◌, List}
use Rattle.std.proofs.Common.{[], ◌∷◌, ◌++◌, length, refl, sym, ap, ◌∙◌, arith}
use Rattle.std.proofs.lemmas.Bool.{cases_lt, cases_eq}
use Rattle.std.proofs.lemmas.List.{length-append}
use Rattle.std.specs.List.Sorted.{IsNonDecreasing}
use Rattle.exact_cross.specs.declared.segment.Segment.{Segment}
use Rattle.segmenter.proofs.SegmentsExist.{IsSegmentation-some}
use Rattle.exact_cross.specs.IndexLevels.{level_at, eps_at}
use Rattle.levels.specs.Indexes.{xs_at, points_at, IsLevel, IsLaidLevel, IsIndex}
use Rattle.levels.proofs.SegmentLemmas.{fewer_runs}
use Rattle.levels.proofs.LevelLemmas.{xs_at-length, ascends_at, some_at, IsLaidLevel-from_level}
use Rattle.levels.proofs.StoredLemmas.{level_at-below, level_at-last, IsLevel-push}

-- the first levels, each of which has more runs than one
record AreUnfinished (keys : List ℕ) (eps eps_rec : ℕ) (levels : List (List Segment)) : Type 0 where
  each : (i : ℕ) → i < length levels → IsLevel keys eps eps_rec levels i
  more : (i : ℕ) → i < length levels → length (level_at levels i) ≢ 1

index_from : (keys : List ℕ) (eps eps_rec : ℕ) →
    IsNonDecreasing keys → 0 < length keys → (fuel : ℕ) (levels : List (List Segment)) →
    AreUnfinished keys eps eps_rec levels → length (xs_at keys levels (length levels)) ≤ fuel →
    (whole : List (List Segment)) × IsIndex keys eps eps_rec whole
index_from keys eps eps_rec order some zero levels so_far few =
    absurd (omega (
      arith,
      few,
      some_at keys eps eps_rec levels order some
          (length levels) (λ k less. IsLaidLevel-from_level keys eps eps_rec levels k (so_far.each k less)),
    ))
index_from keys eps eps_rec order some (suc fuel) levels so_far few =
    let n = length levels in
    let laid : (k : ℕ) → k < n → IsLaidLevel keys eps eps_rec levels k =
    λ k less. IsLaidLevel-from_level keys eps eps_rec levels k (so_far.each k less) in
    let here = ascends_at keys eps eps_rec levels order n laid in
    let points = some_at keys eps eps_rec levels order some n laid in
    let level = IsSegmentation-some (points_at keys levels n)
    (eps_at eps eps_rec n) 0 (length (xs_at keys levels n)) here.ascends (omega arith) (omega arith) in
    let segments = level.0 in
    let higher = levels ++ segments ∷ [] in
    let count : length higher ≡ n + 1 = length-append levels (segments ∷ []) in
    let last : level_at higher n ≡ segments = sym (level_at-last levels segments n refl) in
    let runs = fewer_runs (points_at keys levels n) (eps_at eps eps_rec n) segments here.ascends level.1.greedy in
    let each : (i : ℕ) → i < n + 1 → IsLevel keys eps eps_rec higher i =
    IsLevel-push keys eps eps_rec levels segments n refl so_far.each level.1 in
    let below : (i : ℕ) → i < n → length (level_at higher i) ≢ 1 =
    λ i less one. so_far.more i less (ap length (level_at-below levels segments i less) ∙ one) in
    elim (cases_eq (length segments) 1) [
      | inl one ↦ (
        higher,
        record {
          none = λ none. absurd (omega arith);
          some = λ some. omega arith;
          each = λ i inside. each i (omega arith);
          last = λ i at.
              let top : i ≡ n = omega arith in
              ap (λ (k : ℕ). length (level_at higher k)) top ∙ ap length last ∙ one;
          others = λ i before. below i (omega arith);
        },
      )
      | inr more ↦ index_from keys eps eps_rec order some fuel higher
          (record {
            each = λ i inside. each i (omega arith);
            more = λ i inside one. elim (cases_lt i n) [
              | inl before ↦ below i before one
              | inr from ↦
                  let top : n ≡ i = omega arith in
                  more (sym (ap length last) ∙ ap (λ (k : ℕ). length (level_at higher k)) top ∙ one)
            ];
          })
          (omega (
            arith,
            ap (λ (k : ℕ). length (xs_at keys higher k)) count,
            xs_at-length keys higher n,
            ap length last,
            runs,
            points,
            few,
          ))
    ]

pub IsIndex-some : (keys : List ℕ) (eps eps_rec : ℕ) →
    IsNonDecreasing keys → (levels : List (List Segment)) × IsIndex keys eps eps_rec levels
IsIndex-some keys eps eps_rec order = elim (cases_lt 0 (length keys)) [
  | inl some ↦ index_from keys eps eps_rec order some (length (xs_at keys [] 0)) []
      (record { each = λ i inside. absurd (omega arith); more = λ i inside. absurd (omega arith) }) (omega arith)
  | inr none ↦ (
    [],
    record {
      none = λ none. refl;
      some = λ some. absurd (omega arith);
      each = λ i inside. absurd (omega arith);
      last = λ i at. absurd (omega arith);
      others = λ i before. absurd (omega arith);
    },
  )
]
