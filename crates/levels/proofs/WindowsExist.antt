-- A question has windows: each run's line has a floor at it, so that each level has a window, from the last one down.
--
-- Main results: `IsWindow-some`: a line with a positive run has
-- a window; `IsWindowAt-some`: so has a level of which the level
-- above has the run; `AreWindows-some`: there is a list that is the windows of a question.
use Rattle.std.proofs.Common.{◌≡◌, inl, inr, ℕ, zero, suc, ◌+◌, ◌-◌, ◌*◌, ◌/◌, ◌<◌, ◌≤◌, ℤ, pos, ◌-ℤ◌, min, max, List}
use Rattle.std.proofs.Common.{[], ◌∷◌, length, slice_index, slice_index_or, refl, sym, ap, subst, arith, add-one, All}
use Rattle.std.proofs.lemmas.Bool.{cases_lt}
use Rattle.std.proofs.lemmas.Int.{ints, clamps}
use Rattle.std.proofs.lemmas.List.Elements.{All-nil, All-cons}
use Rattle.std.proofs.Math.Nat.{div-mul-le_self, lt-div-mul-add}
use Rattle.std.specs.List.Sorted.{IsNonDecreasing}
use borrow.Author.Differences.{up, down}
use Rattle.exact_cross.specs.declared.line.Line.{Line}
use Rattle.exact_cross.specs.declared.segment.Segment.{Segment}
use Rattle.exact_cross.specs.Lines.{SomeLineFits}
use Rattle.exact_cross.specs.Floors.{IsFloorAt}
use Rattle.exact_cross.specs.Segments.{IsSteepSegment}
use Rattle.exact_cross.proofs.CallerLemmas.{IsFloorAt-in, line_of_pair-positive}
use Rattle.window_search.specs.Searches.{IsPredecessor}
use Rattle.window_search.specs.Windows.{IsPredicted, IsWindow}
use Rattle.exact_cross.specs.IndexLevels.{first_xs, level_at, eps_at}
use Rattle.levels.specs.Indexes.{IsLaidIndex, xs_at, ys_at, points_at}
use Rattle.levels.specs.declared.windows.LevelWindow.{LevelWindow}
use Rattle.levels.specs.Lookups.{extent_at, IsWindowAt, IsBelowAll, AreWindows}
use Rattle.levels.proofs.LevelLemmas.{xs_at-above, xs_at-length}
use Rattle.levels.proofs.SegmentLemmas.{run_at, end_at, HasRun-at, predecessor_in_run}
use Rattle.levels.proofs.WindowLists.{window_of}
use Rattle.levels.proofs.LookupLemmas.{no_segment, ascends, top_run, has_predecessor}

-- the quotient of a difference, rounded down
record HasQuotient (plus minus run : ℕ) : Type 0 where
  quotient : ℤ
  not_above : up quotient * run + minus ≤ down quotient * run + plus
  greatest : down quotient * run + plus < up quotient * run + run + minus

quotient_of : (plus minus run : ℕ) → 0 < run → HasQuotient plus minus run
quotient_of plus minus run positive = elim (cases_lt plus minus) [
  | inl below ↦
      let fall : ℕ = minus - plus + (run - 1) in
      let count : ℕ = fall / run in
      let f : ℤ = pos 0 -ℤ pos count in
      let low : count * run ≤ fall = div-mul-le_self fall run in
      let next : fall < count * run + run = lt-div-mul-add positive in
      let is : up f + count ≡ down f = omega (arith, ints) in
      let scaled : (up f + count) * run ≡ down f * run = ap (λ (t : ℕ). t * run) is in
      record { quotient = f; not_above = omega arith; greatest = omega arith }
  | inr from ↦
      let climb : ℕ = plus - minus in
      let count : ℕ = climb / run in
      let low : count * run ≤ climb = div-mul-le_self climb run in
      let next : climb < count * run + run = lt-div-mul-add positive in
      record { quotient = pos count; not_above = omega arith; greatest = omega arith }
]

-- a line with a positive run has a floor at each key
IsFloorAt-some : (line : Line) (q : ℕ) → 0 < line.run → (floor : ℤ) × IsFloorAt line q floor
IsFloorAt-some line q positive =
    let at = quotient_of
    (up line.y0 * line.run + line.rise * q) (down line.y0 * line.run + line.rise * line.x0) line.run positive in
    (at.quotient, IsFloorAt-in line q at.quotient at.not_above at.greatest)

-- and predicts a place there
IsPredicted-some : (line : Line) (low high q : ℕ) → 0 < line.run → (p : ℕ) × IsPredicted line low high q p
IsPredicted-some line low high q positive =
    let at = IsFloorAt-some line q positive in
    let floor : ℤ = at.0 in
    let p : ℕ = max low (min (up floor - down floor) high) in
    (p, record { floor = floor; exact = at.1; clamped = omega (arith, ints, clamps) })

IsWindow-some : (line : Line) (low high eps q len : ℕ) →
    0 < line.run → (from : ℕ) × (to : ℕ) × IsWindow line low high eps q len from to
IsWindow-some line low high eps q len positive =
    let at = IsPredicted-some line low high q positive in
    (at.0 - (eps + 1), min (at.0 + (eps + 1)) len, record { p = at.0; predicted = at.1; starts = refl; ends = refl })

module _ (keys : List ℕ) (eps eps_rec : ℕ) (levels : List (List Segment))
    (order : IsNonDecreasing keys) (index : IsLaidIndex keys eps eps_rec levels) (q : ℕ) where
  -- where a run has the last first x at or before the question, its level has a window
  IsWindowAt-some : (i run : ℕ) → i < length levels → IsPredecessor (xs_at keys levels (i + 1)) q run →
      (low : ℕ) × (high : ℕ) × IsWindowAt keys eps eps_rec levels i q low high
  IsWindowAt-some i run inside found =
      let here = ascends keys eps eps_rec levels order index i (omega arith) in
      let xs = xs_at keys levels i in
      let p = points_at keys levels i in
      let bound = eps_at eps eps_rec i in
      let level = (index.each i inside).laid in
      let segments = level_at levels i in
      let run_inside : run < length segments = omega (arith, xs_at-length keys levels i, found.inside) in
      let segment = slice_index_or segments run no_segment in
      let e = end_at segments run (length xs) in
      let at = run_at (IsSteepSegment p bound)
      (SomeLineFits p bound) 0 (length xs) segments run no_segment run_inside level.cover level.steep in
      let predecessor = has_predecessor keys eps eps_rec levels order index no_segment i run q inside found in
      let above : IsPredecessor (first_xs xs segments) q run =
      subst (λ (l : List ℕ). IsPredecessor l q run) (xs_at-above keys levels i) found in
      let has = predecessor_in_run (IsSteepSegment p bound)
      xs segments run no_segment segment e q predecessor.0 here.rises refl at above predecessor.1 in
      let rising = line_of_pair-positive
      p bound segment.start e segment.a segment.b here.ascends at.some at.within at.holds.pair in
      let positive : 0 < segment.line.run = omega (arith, rising, ap (λ (l : Line). l.run) at.holds.line) in
      let window = IsWindow-some segment.line (slice_index (ys_at keys levels i) segment.start)
      (slice_index (ys_at keys levels i) (e - 1)) bound q (extent_at keys levels i) positive in (
        window.0,
        window.1,
        record {
          place = predecessor.0;
          last = predecessor.1;
          segment = segment;
          e = e;
          run = HasRun-at segments run (length xs) no_segment run_inside;
          from_start = has.0;
          to_end = has.1;
          window = window.2;
        },
      )

  -- the windows of the levels below n, from the highest down
  record AreWindowsBelow (n : ℕ) (windows : List LevelWindow) : Type 0 where
    count : length windows ≡ n
    descends : (k : ℕ) (d : LevelWindow) → k < length windows → (slice_index_or windows k d).level + (k + 1) ≡ n
    each : All (λ window. IsWindowAt keys eps eps_rec levels window.level q window.low window.high) windows

  windows_below : (n run : ℕ) → n ≤ length levels →
      IsPredecessor (xs_at keys levels n) q run → (windows : List LevelWindow) × AreWindowsBelow n windows
  windows_below zero run within found = (
    [],
    record {
      count = refl;
      descends = λ k d inside. absurd (omega arith);
      each = All-nil
          (λ (window : LevelWindow). IsWindowAt keys eps eps_rec levels window.level q window.low window.high);
    },
  )
  windows_below (suc n) run within found =
      let above : IsPredecessor (xs_at keys levels (n + 1)) q run =
      subst (λ (k : ℕ). IsPredecessor (xs_at keys levels k) q run) (sym (add-one n)) found in
      let here = IsWindowAt-some n run (omega arith) above in
      let next = has_predecessor keys eps eps_rec levels order index no_segment n run q (omega arith) above in
      let rest = windows_below n next.0 (omega arith) next.1 in
      let window = window_of n here.0 here.1 in (
        window ∷ rest.0,
        record {
          count = omega (arith, rest.1.count);
          descends = placed n window rest.0 refl rest.1.descends;
          each = All-cons
              (λ (window : LevelWindow). IsWindowAt keys eps eps_rec levels window.level q window.low window.high)
              window rest.0 here.2 rest.1.each;
        },
      )
    where
      placed : (n : ℕ) (window : LevelWindow) (rest : List LevelWindow) → window.level ≡ n →
          ((k : ℕ) (d : LevelWindow) → k < length rest → (slice_index_or rest k d).level + (k + 1) ≡ n) →
          (k : ℕ) (d : LevelWindow) →
          k < length (window ∷ rest) → (slice_index_or (window ∷ rest) k d).level + (k + 1) ≡ suc n
      placed n window rest top behind zero d inside = omega arith
      placed n window rest top behind (suc k) d inside = omega (arith, behind k d (omega arith))

  pub AreWindows-some : (windows : List LevelWindow) × AreWindows keys eps eps_rec levels q windows
  AreWindows-some = elim (cases_lt 0 (length keys)) [
    | inr none ↦ no_window (inl (omega arith))
    | inl some ↦ elim (cases_lt q (slice_index keys 0)) [
      | inl below ↦ no_window (inr below)
      | inr from ↦
          let last : length levels - 1 + 1 ≡ length levels = omega (arith, index.some some) in
          let top : IsPredecessor (xs_at keys levels (length levels)) q 0 =
          subst (λ (k : ℕ). IsPredecessor (xs_at keys levels k) q 0) last
          (top_run keys eps eps_rec levels order index no_segment (length levels - 1) q last some from) in
          let all = windows_below (length levels) 0 (omega arith) top in (
            all.0,
            record {
              none = λ below. elim below [ inl empty ↦ absurd (omega arith) | inr less ↦ absurd (omega arith) ];
              some = λ some from. all.1.count;
              order = all.1.descends;
              each = all.1.each;
            },
          )
    ]
  ]
    where
      no_window : IsBelowAll keys q → (windows : List LevelWindow) × AreWindows keys eps eps_rec levels q windows
      no_window below = (
        [],
        record {
          none = λ below. refl;
          some = λ some from. absurd (elim below [ inl empty ↦ omega arith | inr less ↦ omega arith ]);
          order = λ k d inside. absurd (omega arith);
          each = All-nil
              (λ (window : LevelWindow). IsWindowAt keys eps eps_rec levels window.level q window.low window.high);
        },
      )
