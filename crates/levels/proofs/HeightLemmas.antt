-- How long runs are at least, and how many levels there are at most.
--
-- Main results: `long_level`: since 2ε + 2 places at their own
-- heights have a line, each run above level 0 but the last one has
-- as many; `levels_low_over_runs`, `levels_low`: each level has
-- so many times more points than the one above it, counted from
-- the runs of level 0 on, or from its points on.
use Rattle.std.proofs.Common.{◌≡◌, inl, inr, ℕ, zero, suc, ◌+◌, ◌-◌, ◌*◌, ◌^◌, ◌<◌, ◌≤◌, List, []}
use Rattle.std.proofs.Common.{◌∷◌, length, slice_index_or, ap, ◌∙◌, subst, arith, add-one, pos, ◌-ℤ◌}
use Rattle.std.proofs.lemmas.Bool.{cases_lt, cases_eq}
use Rattle.std.proofs.lemmas.Bool.Decides.{nat_tests}
use Rattle.std.proofs.lemmas.Int.{ints}
use Rattle.std.proofs.Math.Nat.{pow-suc, pow-zero, mul-le-mul_left}
use borrow.Author.Differences.{up, down}
use Rattle.std.specs.List.Sorted.{IsNonDecreasing}
use Rattle.exact_cross.specs.declared.segment.Segment.{Segment}
use Rattle.exact_cross.specs.Points.{Points, IsAscending}
use Rattle.exact_cross.specs.Lines.{RationalLine, SomeLineFits}
use Rattle.exact_cross.specs.Covers.{run_end, CutsInto, IsLongest}
use Rattle.exact_cross.specs.Segments.{starts_of}
use Rattle.exact_cross.proofs.CallerLemmas.{IsWithin-in, CutsInto-rises}
use Rattle.key_points.specs.KeyPoints.{xs_of}
use Rattle.exact_cross.specs.IndexLevels.{level_at, eps_at}
use Rattle.levels.specs.Indexes.{xs_at, points_at, IsLevel, IsIndex, IsLaidIndex}
use Rattle.levels.specs.Heights.{least_places, HasLongRuns, IsLow, IsLowOverRuns}
use Rattle.levels.proofs.SegmentLemmas.{two_places, IsLong, cuts_long, runs-count, starts_count}
use Rattle.levels.proofs.LevelLemmas.{xs_at-base, xs_at-length, some_at}
use Rattle.levels.proofs.StoredLemmas.{eps_at-above}
use Rattle.levels.proofs.LookupLemmas.{ascends, height_above}

-- a line from eps above the first place to eps below the last one fits places at their own heights
some_line-places : (p : Points) (eps s e : ℕ) → IsAscending p →
    ((j : ℕ) → j < p.count → p.y j ≡ j) → s + 1 < e → e ≤ s + (2 * eps + 2) → e ≤ p.count → SomeLineFits p eps s e
some_line-places p eps s e ascends heights some short inside =
    (line, λ j from to. IsWithin-in p eps line j (above j from to) (below j from to))
  where
    rises : p.x s < p.x (e - 1)
    rises = ascends.x_rises s (e - 1) (omega arith) (omega arith)

    gap : ℕ
    gap = p.x (e - 1) - p.x s

    line : RationalLine
    line = record {
      num = pos 1;
      icpt = pos ((s + eps) * (p.x (e - 1) - p.x s)) -ℤ pos (p.x s);
      den = p.x (e - 1) - p.x s;
      positive = omega (arith, rises);
    }

    icpt : up (pos ((s + eps) * (p.x (e - 1) - p.x s)) -ℤ pos (p.x s)) + p.x s
        ≡ down (pos ((s + eps) * (p.x (e - 1) - p.x s)) -ℤ pos (p.x s)) + (s + eps) * (p.x (e - 1) - p.x s)
    icpt = plain ((s + eps) * (p.x (e - 1) - p.x s)) (p.x s)
      where
        plain : (a b : ℕ) → up (pos a -ℤ pos b) + b ≡ down (pos a -ℤ pos b) + a
        plain a b = omega (arith, ints)

    from_first : (j : ℕ) → s ≤ j → j < e → p.x s ≤ p.x j
    from_first j from to = elim (cases_lt s j) [
      | inl after ↦ omega (arith, ascends.x_rises s j after (omega arith))
      | inr first ↦ let here : j ≡ s = omega arith in omega (arith, ap p.x here)
    ]

    to_last : (j : ℕ) → s ≤ j → j < e → p.x j ≤ p.x (e - 1)
    to_last j from to = elim (cases_lt j (e - 1)) [
      | inl before ↦ omega (arith, ascends.x_rises j (e - 1) before (omega arith))
      | inr last ↦ let here : j ≡ e - 1 = omega arith in omega (arith, ap p.x here)
    ]

    above : (j : ℕ) → s ≤ j → j < e → up (pos 1) * p.x j + up (pos ((s + eps) * (p.x (e - 1) - p.x s)) -ℤ pos (p.x s)) ≤
        down (pos 1) * p.x j + down (pos ((s + eps) * (p.x (e - 1) - p.x s)) -ℤ pos (p.x s))
        + (p.x (e - 1) - p.x s) * p.y j + (p.x (e - 1) - p.x s) * eps
    above j from to = elim (cases_lt s j) [
      | inl after ↦
          let more = mul-le-mul_left (p.x (e - 1) - p.x s) (next s j after) in
          omega (
            arith,
            ints,
            icpt,
            more,
            to_last j from to,
            rises,
            ap (λ (n : ℕ). (p.x (e - 1) - p.x s) * n) (heights j (omega arith)),
          )
      | inr first ↦
          let here : j ≡ s = omega arith in
          omega (
            arith,
            ints,
            icpt,
            ap p.x here,
            ap (λ (n : ℕ). (p.x (e - 1) - p.x s) * n) (heights j (omega arith) ∙ here),
          )
    ]
      where
        next : (s j : ℕ) → s < j → s + 1 ≤ j
        next s j after = omega arith

    below : (j : ℕ) → s ≤ j → j < e → down (pos 1) * p.x j
        + down (pos ((s + eps) * (p.x (e - 1) - p.x s)) -ℤ pos (p.x s)) + (p.x (e - 1) - p.x s) * p.y j ≤
        up (pos 1) * p.x j + up (pos ((s + eps) * (p.x (e - 1) - p.x s)) -ℤ pos (p.x s)) + (p.x (e - 1) - p.x s) * eps
    below j from to = elim (cases_lt (s + 2 * eps) j) [
      | inl past ↦
          let here : j ≡ s + (2 * eps + 1) = omega arith in
          let last : j ≡ e - 1 = omega arith in
          omega (
            arith,
            ints,
            icpt,
            rises,
            ap p.x last,
            ap (λ (n : ℕ). (p.x (e - 1) - p.x s) * n) (heights j (omega arith) ∙ here),
          )
      | inr under ↦
          let less = mul-le-mul_left (p.x (e - 1) - p.x s) under in
          omega (
            arith,
            ints,
            icpt,
            less,
            from_first j from to,
            ap (λ (n : ℕ). (p.x (e - 1) - p.x s) * n) (heights j (omega arith)),
          )
    ]

-- a run that isn't the last one has 2ε + 2 places or more, where heights are places
places_long : (p : Points) (eps to s e : ℕ) → IsAscending p →
    ((j : ℕ) → j < p.count → p.y j ≡ j) → to ≤ p.count → s < e → e < to → IsLongest p eps to s e → s + (2 * eps + 2) ≤ e
places_long p eps to s e ascends heights inside some before longest = elim (cases_lt e (s + (2 * eps + 2))) [
  | inl short ↦ absurd
      (longest.no_longer before
      (some_line-places p eps s (e + 1) ascends heights (omega arith) (omega arith) (omega arith)))
  | inr enough ↦ enough
]

long_runs : (least to from : ℕ) (segments : List Segment) →
    CutsInto (IsLong least to) from to (starts_of segments) → HasLongRuns least segments
long_runs least to from [] cuts k d more = absurd (omega arith)
long_runs least to from (segment ∷ []) cuts k d more = absurd (omega arith)
long_runs least to from (segment ∷ next ∷ later) cuts zero d more =
    let behind = cuts.3 in
    let inside : next.start < to = omega
    (arith, behind.1, CutsInto-rises (IsLong least to) (starts_of later) (run_end (starts_of later) to) to behind.3) in
    omega (arith, cuts.0, cuts.2 inside)
long_runs least to from (segment ∷ next ∷ later) cuts (suc k) d more =
    let shift : suc (k + 1) ≡ suc k + 1 = omega arith in
    subst (λ (n : ℕ).
    (slice_index_or (next ∷ later) k d).start + least ≤ (slice_index_or (segment ∷ next ∷ later) n d).start) shift
    (long_runs least to next.start (next ∷ later) cuts.3 k d (omega arith))

module _ (keys : List ℕ) (eps eps_rec : ℕ)
    (levels : List (List Segment)) (order : IsNonDecreasing keys) (index : IsLaidIndex keys eps eps_rec levels) where
  least-base : (i : ℕ) → i ≡ 0 → least_places eps_rec i ≡ 2
  least-base i base = grind (arith, nat_tests)

  least-above : (i : ℕ) → 0 < i → least_places eps_rec i ≡ 2 * eps_rec + 2
  least-above i above = grind (arith, nat_tests)

  long_cuts : (i : ℕ) → i < length levels →
      IsLevel keys eps eps_rec levels i → CutsInto (IsLong (least_places eps_rec i) (length (xs_at keys levels i))) 0
      (length (xs_at keys levels i)) (starts_of (level_at levels i))
  long_cuts i inside level =
      let here = ascends keys eps eps_rec levels order index i (omega arith) in
      let to = length (xs_at keys levels i) in
      cuts_long
      (points_at keys levels i) (eps_at eps eps_rec i) to 0 (least_places eps_rec i) (starts_of (level_at levels i))
      (λ s e some before longest. elim (cases_lt 0 i) [
        | inl above ↦
            let bound = eps_at-above eps eps_rec i above in
            let enough = places_long (points_at keys levels i) (eps_at eps eps_rec i) to s e here.ascends
            (λ j less. height_above keys eps eps_rec levels order index i j above less)
            (omega arith) some before longest in
            omega (arith, least-above i above, bound, enough)
        | inr base ↦
            omega (
              arith,
              least-base i (omega arith),
              two_places
                  (points_at keys levels i)
                  (eps_at eps eps_rec i) to s e here.ascends (omega arith) some before longest,
            )
      ]) level.greedy

  pub long_level : (i : ℕ) →
      i < length levels → IsLevel keys eps eps_rec levels i → HasLongRuns (least_places eps_rec i) (level_at levels i)
  long_level i inside level =
      long_runs (least_places eps_rec i) (length (xs_at keys levels i)) 0 (level_at levels i) (long_cuts i inside level)

  some_key : 0 < length levels → 0 < length keys
  some_key level =
      elim (cases_eq (length keys) 0) [ inl none ↦ absurd (omega (arith, index.none none)) | inr key ↦ omega arith ]

  -- the runs of a level, each with so many places, are no more than its points
  runs_few : (i : ℕ) → i < length levels → IsLevel keys eps eps_rec levels i → 0 < length (level_at levels i) →
      least_places eps_rec i * length (level_at levels i) + 1 ≤ length (xs_at keys levels i) + least_places eps_rec i
  runs_few i inside level some =
      let count = starts_count (level_at levels i) in
      omega (
        arith,
        ap (λ (n : ℕ). least_places eps_rec i * n) count,
        runs-count (least_places eps_rec i) (length (xs_at keys levels i)) 0
            (starts_of (level_at levels i)) (omega (arith, count)) (long_cuts i inside level),
      )

  -- from level i up there are k more levels
  points_many : (k i : ℕ) →
      i + (k + 1) ≡ length levels → 0 < i → (2 * eps_rec + 2) ^ k + 1 ≤ length (xs_at keys levels i)
  points_many k zero is above = absurd (omega arith)
  points_many zero (suc i) is above =
      let below : i + 1 < length levels = omega arith in
      let some = some_at keys eps eps_rec levels order
      (some_key (omega arith)) (i + 1) (λ n less. index.each n (omega arith)) in
      omega (
        arith,
        pow-zero (2 * eps_rec + 2),
        index.others i below,
        xs_at-length keys levels i,
        some,
        ap (λ (n : ℕ). length (xs_at keys levels n)) (add-one i),
      )
  points_many (suc k) (suc i) is above =
      let up_there = points_many k (suc i + 1) (omega arith) (omega arith) in
      let count = xs_at-length keys levels (suc i) in
      let few = runs_few
      (suc i) (omega arith) ((index.each (suc i) (omega arith)).above above) (omega (arith, count, up_there)) in
      let least = least-above (suc i) above in
      let scaled = mul-le-mul_left (2 * eps_rec + 2) up_there in
      omega (
        arith,
        pow-suc (2 * eps_rec + 2) k,
        scaled,
        few,
        least,
        ap (λ (n : ℕ). n * length (level_at levels (suc i))) least,
        ap (λ (n : ℕ). (2 * eps_rec + 2) * n) count,
      )

  pub levels_low_over_runs : IsLowOverRuns eps_rec (length levels) (length (level_at levels 0))
  levels_low_over_runs two =
      omega (arith, points_many (length levels - 2) 1 (omega arith) (omega arith), xs_at-length keys levels 0)

  pub levels_low : IsIndex keys eps eps_rec levels → IsLow eps_rec (length levels) (length (xs_of keys))
  levels_low greedy two =
      let above = levels_low_over_runs two in
      let few = runs_few 0 (omega arith) (greedy.each 0 (omega arith)) (omega (arith, above)) in
      omega (arith, above, few, ap length (xs_at-base keys levels))
