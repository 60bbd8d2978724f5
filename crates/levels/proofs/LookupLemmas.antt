-- The lookup: each level's window holds what is searched in it.
--
-- Main results: `top_run`: the one run of the last level has
-- the predecessor of a question that isn't below the first key;
-- `run_line`: a run's line is within the level's bound at its
-- points; `place_in_window`, `position_in_window`: above level 0 the
-- window of the run with the predecessor holds it, and at level 0 the position in the file.
use Rattle.std.proofs.Common.{◌≡◌, inl, inr, ℕ, zero, suc, ◌+◌, ◌-◌, ◌^◌, ◌<◌, ◌≤◌, List, [], ◌∷◌, length}
use Rattle.std.proofs.Common.{slice_index, slice_index_or, refl, sym, ap, ◌∙◌, subst, arith, add-one, eqb, pos, None}
use Rattle.std.proofs.lemmas.Bool.{cases_lt, cond-true, cond-false, eq-eqb, ne_eqb}
use Rattle.std.specs.List.Sorted.{IsNonDecreasing, IsStrictlyIncreasing}
use Rattle.exact_cross.specs.declared.segment.Segment.{Segment}
use Rattle.exact_cross.specs.Points.{Points}
use Rattle.exact_cross.specs.Lines.{SomeLineFits}
use Rattle.exact_cross.specs.Covers.{IsCover}
use Rattle.exact_cross.specs.Segments.{starts_of, EachRun, IsFitted}
use Rattle.exact_cross.specs.Checked.{IsInRange}
use Rattle.exact_cross.proofs.CallerLemmas.{slice_index-places, slice_index-rises, IsNonDecreasing-from_neighbours}
use Rattle.window_search.specs.Searches.{lb, IsPredecessor}
use Rattle.window_search.specs.Windows.{IsWindow, IsLineOf, IsLastAtMost, IsClose, IsNext}
use Rattle.window_search.proofs.CallerLemmas.{lb-is, predecessor_exists, lb-predecessor}
use Rattle.piece_join.proofs.RelaxedLemmas.{runs-from_laid}
use Rattle.key_points.specs.KeyPoints.{xs_of}
use Rattle.exact_cross.specs.IndexLevels.{level_at, eps_at}
use Rattle.levels.specs.Indexes.{xs_at, ys_at, points_at, IsLaidIndex}
use Rattle.key_points.proofs.CallerLemmas.{xs-first, ys-at, next_of_point, close_of_point}
use Rattle.levels.specs.Lookups.{HasRun, extent_at, IsWindowAt}
use Rattle.levels.proofs.SegmentLemmas.{first_x_at, run_at, HasRun-at, IsRun, end_at, predecessor_in_run}
use Rattle.levels.proofs.LevelLemmas.{xs_at-base, ys_at-base, xs_at-above, ys_at-above}
use Rattle.levels.proofs.LevelLemmas.{xs_at-length, AscendsAt, ascends_at, heights_few, some_at}

pub IsNonDecreasing-from_rising : (xs : List ℕ) → IsStrictlyIncreasing xs → IsNonDecreasing xs
IsNonDecreasing-from_rising xs rises = IsNonDecreasing-from_neighbours xs (λ k inside. omega (arith, rises k inside))

-- where no key is below the question, its position is 0
pub none_below : (keys : List ℕ) (q : ℕ) → IsNonDecreasing keys → (0 < length keys → q ≤ slice_index keys 0) → 0 ≡ lb keys q
none_below keys q order first =
    sym (lb-is keys q 0 (omega arith)
    (λ k less. absurd (omega arith)) (λ k low inside. omega (arith, first (omega arith), order 0 k 0 low inside)))

-- what a read of a list of segments gives past its end
abbrev pub no_segment : Segment
no_segment = record { start = 0; a = 0; b = 0; line = record { x0 = 0; y0 = pos 0; rise = 0; run = 0 }; cut = None }

-- the first run starts at the first place
first_start : (p : Points) (eps to : ℕ) (segments : List Segment) (d : Segment) →
    0 < length segments → IsCover p eps 0 to (starts_of segments) → (slice_index_or segments 0 d).start ≡ 0
first_start p eps to [] d some cover = absurd (omega arith)
first_start p eps to (segment ∷ later) d some cover = cover.0

pub extent_at-base : (keys : List ℕ) (levels : List (List Segment)) (i : ℕ) →
    i ≡ 0 → extent_at keys levels i ≡ length keys
extent_at-base keys levels i base = cond-true (eqb i 0) _ _ (eq-eqb i 0 base)

pub extent_at-above : (keys : List ℕ) (levels : List (List Segment)) (i : ℕ) →
    0 < i → extent_at keys levels i ≡ length (xs_at keys levels i)
extent_at-above keys levels i above = cond-false (eqb i 0) _ _ (ne_eqb i 0 (λ base. omega arith))

module _ (keys : List ℕ) (eps eps_rec : ℕ)
    (levels : List (List Segment)) (order : IsNonDecreasing keys) (index : IsLaidIndex keys eps eps_rec levels) where
  pub ascends : (i : ℕ) → i ≤ length levels → AscendsAt keys levels i
  ascends i within = ascends_at keys eps eps_rec levels order i (λ k less. index.each k (omega arith))

  -- each level's first x is the first key
  pub first_at : 0 < length keys →
      (d : Segment) (i : ℕ) → i ≤ length levels → slice_index (xs_at keys levels i) 0 ≡ slice_index keys 0
  first_at some d zero within = ap (λ (xs : List ℕ). slice_index xs 0) (xs_at-base keys levels) ∙ (xs-first keys some).1
  first_at some d (suc i) within =
      let points = some_at keys eps eps_rec levels order some (suc i) (λ k less. index.each k (omega arith)) in
      let runs : 0 < length (level_at levels i) =
      omega (arith, xs_at-length keys levels i, ap (λ (k : ℕ). length (xs_at keys levels k)) (add-one i)) in
      let start = first_start (points_at keys levels i) (eps_at eps eps_rec i)
      (length (xs_at keys levels i)) (level_at levels i) d runs (index.each i (omega arith)).laid.cover in
      ap (λ (k : ℕ). slice_index (xs_at keys levels k) 0) (sym (add-one i))
      ∙ ap (λ (xs : List ℕ). slice_index xs 0) (xs_at-above keys levels i)
      ∙ first_x_at (xs_at keys levels i) (level_at levels i) 0 d runs
      ∙ ap (slice_index (xs_at keys levels i)) start ∙ first_at some d i (omega arith)

  -- the one run of the last level has the predecessor
  pub top_run : (d : Segment) (last q : ℕ) → last + 1 ≡ length levels →
      0 < length keys → slice_index keys 0 ≤ q → IsPredecessor (xs_at keys levels (last + 1)) q 0
  top_run d last q at some first =
      let one = index.last last at in
      let count = xs_at-length keys levels last in
      record {
        inside = omega (arith, count, one);
        at_most = omega (arith, first_at some d (last + 1) (omega arith), first);
        last = λ j after inside. absurd (omega (arith, count, one));
      }

  -- where a run has the last first x at or before a question, there is a predecessor
  pub has_predecessor : (d : Segment) (i run q : ℕ) →
      i < length levels → IsPredecessor (xs_at keys levels (i + 1)) q run →
      (place : ℕ) × IsPredecessor (xs_at keys levels i) q place
  has_predecessor d i run q inside found =
      let here = ascends i (omega arith) in
      let count = xs_at-length keys levels i in
      let xs = xs_at keys levels i in
      let p = points_at keys levels i in
      let e = eps_at eps eps_rec i in
      let cover = (index.each i inside).laid.cover in
      let run_inside : run < length (level_at levels i) = omega (arith, count, found.inside) in
      let at = run_at (λ segment e. Unit {0}) (SomeLineFits p e) 0
      (length xs) (level_at levels i) run d run_inside cover (all (length xs) (level_at levels i)) in
      let first : slice_index (xs_at keys levels (i + 1)) run
      ≡ slice_index xs (slice_index_or (level_at levels i) run d).start =
      ap (λ (l : List ℕ). slice_index l run) (xs_at-above keys levels i)
      ∙ first_x_at xs (level_at levels i) run d run_inside in
      predecessor_exists xs q (IsNonDecreasing-from_rising xs here.rises) (omega (arith, at.some, at.within))
      (omega (
        arith,
        first,
        found.at_most,
        IsNonDecreasing-from_rising xs here.rises 0
            (slice_index_or (level_at levels i) run d).start 0 (omega arith) (omega (arith, at.some, at.within)),
      ))
    where
      all : (to : ℕ) (segments : List Segment) → EachRun (λ segment e. Unit {0}) to segments
      all to [] = tt
      all to (segment ∷ later) = (tt, all to later)

  -- a run's line, and its heights
  pub record IsRunLine (i run : ℕ) (segment : Segment) (e : ℕ) : Type 0 where
    pub in_range : IsInRange segment.line
    pub some : segment.start < e
    pub within : e ≤ length (xs_at keys levels i)
    pub line : IsLineOf (points_at keys levels i) (eps_at eps eps_rec i) segment.line
        (slice_index (ys_at keys levels i) segment.start) (slice_index (ys_at keys levels i) (e - 1)) segment.start e
    pub stands : HasRun (level_at levels i) (length (xs_at keys levels i)) segment e
    pub has : (q place : ℕ) → IsPredecessor (xs_at keys levels (i + 1)) q run →
        IsPredecessor (xs_at keys levels i) q place → (segment.start ≤ place) × (place < e)

  pub run_line : length keys < 2 ^ 32 → (i run : ℕ) (d segment : Segment) (e : ℕ) →
      eps_at eps eps_rec i ≤ 1048576 → i < length levels → run < length (level_at levels i) →
      segment ≡ slice_index_or (level_at levels i) run d →
      ((d : Segment) →
      run + 1 < length (level_at levels i) → e ≡ (slice_index_or (level_at levels i) (run + 1) d).start) →
      (length (level_at levels i) ≡ run + 1 → e ≡ length (xs_at keys levels i)) → IsRunLine i run segment e
  run_line few i run d segment e bounded inside run_inside is next last =
      let here = ascends i (omega arith) in
      let xs = xs_at keys levels i in
      let p = points_at keys levels i in
      let bound = eps_at eps eps_rec i in
      let level = (index.each i inside).laid in
      let segments = level_at levels i in
      let fitted = runs-from_laid p bound 0 (length xs) segments here.ascends
      (λ j under. omega (arith, heights_few keys levels i here j under, few)) bounded (omega arith)
      level.cover level.steep in
      let ranged = run_at (λ segment e. IsInRange segment.line)
      (SomeLineFits p bound) 0 (length xs) segments run d run_inside level.cover fitted.0 in
      let fits = run_at
      (IsFitted p bound) (SomeLineFits p bound) 0 (length xs) segments run d run_inside level.cover fitted.1 in
      let end : end_at segments run (length xs) ≡ e = elim (cases_lt (run + 1) (length segments)) [
        | inl more ↦ fits.next d more ∙ sym (next d more)
        | inr final ↦ let count : length segments ≡ run + 1 = omega arith in fits.last count ∙ sym (last count)
      ] in
      let own : IsRun (IsFitted p bound) 0 (length xs) segments run segment e =
      subst (λ (e : ℕ). IsRun (IsFitted p bound) 0 (length xs) segments run segment e) end
      (subst (λ (s : Segment). IsRun (IsFitted p bound) 0 (length xs) segments run s (end_at segments run (length xs)))
      (sym is) fits) in
      let holds = own.holds in
      record {
        in_range = subst (λ (s : Segment). IsInRange s.line) (sym is) ranged.holds;
        some = own.some;
        within = own.within;
        line = record {
          ascending = here.ascends;
          some = own.some;
          inside = own.within;
          positive = holds.positive;
          fits = holds.fits;
          lowest = refl;
          highest = refl;
        };
        stands = subst (λ (e : ℕ). HasRun segments (length xs) segment e) end
            (subst (λ (s : Segment). HasRun segments (length xs) s (end_at segments run (length xs)))
            (sym is) (HasRun-at segments run (length xs) d run_inside));
        has = λ q place found predecessor.
            predecessor_in_run (IsFitted p bound) xs segments run d segment e q place here.rises is own
            (subst (λ (l : List ℕ). IsPredecessor l q run) (xs_at-above keys levels i) found) predecessor;
      }

  -- the predecessor is the last place of its run whose x is at most the question
  pub last_at_most : (i q place s e : ℕ) → e ≤ length (xs_at keys levels i) → (s ≤ place)
      × (place < e) → IsPredecessor (xs_at keys levels i) q place → IsLastAtMost (points_at keys levels i) s e q place
  last_at_most i q place s e within has found = record {
    from_start = has.0;
    to_end = has.1;
    at_most = found.at_most;
    last = λ more. found.last (place + 1) (omega arith) (omega arith);
  }

  pub height_above : (i j : ℕ) → 0 < i → j < length (xs_at keys levels i) → slice_index (ys_at keys levels i) j ≡ j
  height_above zero j above inside = absurd (omega arith)
  height_above (suc i) j above inside =
      let shift = add-one i in
      ap (λ (k : ℕ). slice_index (ys_at keys levels k) j) (sym shift)
      ∙ ap (λ (ys : List ℕ). slice_index ys j) (ys_at-above keys levels i)
      ∙ slice_index-places (length (level_at levels i)) j
      (omega (arith, xs_at-length keys levels i, ap (λ (k : ℕ). length (xs_at keys levels k)) shift))

  -- at level 0 a point's height is the lower bound of its x
  pub lb_at_base : (i j : ℕ) → i ≡ 0 → j < length (xs_at keys levels i) →
      lb keys (slice_index (xs_at keys levels i) j) ≡ slice_index (ys_at keys levels i) j
  lb_at_base zero j base inside = rw (xs_at-base keys levels, ys_at-base keys levels)
      (sym (ys-at keys j (omega (arith, inside, ap length (xs_at-base keys levels)))))
  lb_at_base (suc i) j base inside = absurd (omega arith)

  -- above level 0 the place is its height, and no point leaves a gap
  pub close_above : (i q place e : ℕ) →
      0 < i → e ≤ length (xs_at keys levels i) → place < e → IsClose (points_at keys levels i) e q place
  close_above i q place e above within inside = elim (cases_lt (place + 1) e) [
    | inl more ↦ inr
        (inr (omega (arith, height_above i place above (omega arith), height_above i (place + 1) above (omega arith))))
    | inr final ↦ inr (inl (omega arith))
  ]

  pub next_above : (i place next : ℕ) → 0 < i → place < length (xs_at keys levels i) →
      place ≤ next → next ≤ place + 1 → IsNext (points_at keys levels i) place next
  next_above i place next above inside from to =
      let here = height_above i place above inside in record { from = omega (arith, here); to = omega (arith, here) }

  -- above level 0 the lower bound is the predecessor or the place after it
  pub lb_above : (i q place : ℕ) → i ≤ length levels → IsPredecessor (xs_at keys levels i) q place →
      (place ≤ lb (xs_at keys levels i) q) × (lb (xs_at keys levels i) q ≤ place + 1)
  lb_above i q place within found =
      lb-predecessor (xs_at keys levels i) q place
      (λ j k less inside. slice_index-rises (xs_at keys levels i) j k (ascends i within).rises less inside) found

  -- at level 0 the position is the point's height or the next one
  pub close_base : (q place e : ℕ) → q ≤ 18446744073709551615 →
      e ≤ length (xs_at keys levels 0) → place < e → IsPredecessor (xs_at keys levels 0) q place →
      IsClose (points_at keys levels 0) e q place × IsNext (points_at keys levels 0) place (lb keys q)
  close_base q place e fits within inside found =
      let base : IsPredecessor (xs_of keys) q place =
      subst (λ (l : List ℕ). IsPredecessor l q place) (xs_at-base keys levels) found in
      let below : place + 1 < length (xs_of keys) → q < slice_index (xs_of keys) (place + 1) =
      λ more. base.last (place + 1) (omega arith) more in
      let close = close_of_point keys order place base.inside q base.at_most below fits in
      let next = next_of_point keys order place base.inside q base.at_most below fits in (
        elim close [
          | inl same ↦ inl (same ∙ ap (λ (l : List ℕ). slice_index l place) (sym (xs_at-base keys levels)))
          | inr step ↦ elim (cases_lt (place + 1) e) [
            | inr final ↦ inr (inl (omega arith))
            | inl more ↦
                inr (inr (rw (ys_at-base keys levels) (step (omega (arith, ap length (xs_at-base keys levels))))))
          ]
        ],
        record { from = rw (ys_at-base keys levels) next.0; to = rw (ys_at-base keys levels) next.1 },
      )

  pub closes_at_base : (i q place e : ℕ) → i ≡ 0 → q ≤ 18446744073709551615 →
      e ≤ length (xs_at keys levels i) → place < e → IsPredecessor (xs_at keys levels i) q place →
      IsClose (points_at keys levels i) e q place × IsNext (points_at keys levels i) place (lb keys q)
  closes_at_base zero q place e base fits within inside found = close_base q place e fits within inside found
  closes_at_base (suc i) q place e base fits within inside found = absurd (omega arith)

  -- no point is higher than the greatest place of the windows
  pub height_within : (i len j : ℕ) →
      i ≤ length levels → len ≡ extent_at keys levels i → j < length (xs_at keys levels i) →
      slice_index (ys_at keys levels i) j ≤ len
  height_within i len j within is inside = elim (cases_lt 0 i) [
    | inl upper ↦ omega (arith, is, extent_at-above keys levels i upper, height_above i j upper inside)
    | inr lowest ↦ omega
        (arith, is, extent_at-base keys levels i (omega arith), heights_few keys levels i (ascends i within) j inside)
  ]

  -- its line, by the bound and the heights at hand
  pub line_with : (i run : ℕ) (segment : Segment) (e bound lowest highest : ℕ) →
      IsRunLine i run segment e → bound ≡ eps_at eps eps_rec i →
      lowest ≡ slice_index (ys_at keys levels i) segment.start → highest ≡ slice_index (ys_at keys levels i) (e - 1) →
      IsLineOf (points_at keys levels i) bound segment.line lowest highest segment.start e
  line_with i run segment e bound lowest highest at bound_is lowest_is highest_is =
      rw (bound_is, lowest_is, highest_is) at.line

  -- its window is that of the level
  pub window_at : (i run q place : ℕ) (segment : Segment) (e bound lowest highest len low high : ℕ) →
      IsRunLine i run segment e → IsPredecessor (xs_at keys levels (i + 1)) q run →
      IsPredecessor (xs_at keys levels i) q place →
      bound ≡ eps_at eps eps_rec i → lowest ≡ slice_index (ys_at keys levels i) segment.start →
      highest ≡ slice_index (ys_at keys levels i) (e - 1) → len ≡ extent_at keys levels i →
      IsWindow segment.line lowest highest bound q len low high → IsWindowAt keys eps eps_rec levels i q low high
  window_at i run
      q place segment e bound lowest highest len low high at found last bound_is lowest_is highest_is len_is window =
      let has = at.has q place found last in
      record {
        place = place;
        last = last;
        segment = segment;
        e = e;
        run = at.stands;
        from_start = has.0;
        to_end = has.1;
        window = rw (← bound_is, ← lowest_is, ← highest_is, ← len_is) window;
      }
