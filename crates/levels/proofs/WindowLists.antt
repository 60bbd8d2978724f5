-- The windows along a lookup: one more, all of them, and that there is one list of them.
use Rattle.std.proofs.Common.{◌≡◌, inl, inr, ℕ, ◌+◌, ◌<◌, ◌≤◌, List, [], ◌∷◌, ◌++◌, length}
use Rattle.std.proofs.Common.{slice_index, slice_index_or, ap, ◌∙◌, arith, ◌-◌, sym}
use Rattle.std.proofs.lemmas.Bool.{cases_lt}
use Rattle.std.proofs.lemmas.List.{length-append, get_or_append_left, ext_get_or}
use Rattle.std.proofs.lemmas.List.Elements.{All-push}
use Rattle.std.proofs.Math.Seq.{get_or-append_seam}
use Rattle.std.specs.List.Sorted.{IsNonDecreasing}
use Rattle.exact_cross.specs.declared.line.Line.{Line}
use Rattle.exact_cross.specs.declared.segment.Segment.{Segment}
use Rattle.exact_cross.specs.Lines.{SomeLineFits}
use Rattle.exact_cross.specs.Segments.{IsSteepSegment}
use Rattle.exact_cross.proofs.CallerLemmas.{line_of_pair-positive}
use Rattle.window_search.proofs.CallerLemmas.{IsPredecessor-unique, IsWindow-unique}
use Rattle.exact_cross.specs.IndexLevels.{level_at, eps_at}
use Rattle.levels.specs.Indexes.{PgmIndex, IsLaidIndex, xs_at, ys_at, points_at}
use Rattle.levels.proofs.RunsApart.{HasRun-each, HasRun-within, HasRun-unique}
use Rattle.levels.proofs.LookupLemmas.{ascends}
use Rattle.levels.specs.declared.windows.LevelWindow.{LevelWindow}
use Rattle.levels.specs.Lookups.{extent_at, IsWindowAt, AreWindows, HoldsNarrowly, HasWindowsTo}

-- the window of a level
abbrev pub window_of : ℕ → ℕ → ℕ → LevelWindow
window_of level low high = record { level = level; low = low; high = high }

module _ (index : PgmIndex) (q : ℕ) where
  -- no level yet
  pub HasWindowsTo-none : (n : ℕ) (windows : List LevelWindow) →
      n ≡ length index.levels → length windows ≡ 0 → HasWindowsTo index q n windows
  HasWindowsTo-none n windows all empty = record {
    count = omega arith;
    order = λ k d inside. absurd (omega arith);
    each = λ k d inside. absurd (omega arith);
    holds = λ k d inside. absurd (omega arith);
  }

  pub HasWindowsTo-more : (n low high : ℕ) (windows : List LevelWindow) →
      HasWindowsTo index q (n + 1) windows → IsWindowAt index.keys index.eps index.eps_rec index.levels n q low high →
      HoldsNarrowly index q (window_of n low high) → HasWindowsTo index q n (windows ++ window_of n low high ∷ [])
  HasWindowsTo-more n low high windows above exact holds = record {
    count = omega (arith, count, above.count);
    order = order;
    each = All-push (λ (window : LevelWindow).
        IsWindowAt index.keys index.eps index.eps_rec index.levels window.level q window.low window.high)
        windows (window_of n low high) above.each exact;
    holds = All-push (HoldsNarrowly index q) windows (window_of n low high) above.holds holds;
  }
    where
      more : List LevelWindow
      more = windows ++ window_of n low high ∷ []

      count : length (windows ++ window_of n low high ∷ []) ≡ length windows + 1
      count = length-append windows (window_of n low high ∷ [])

      order : (k : ℕ) (d : LevelWindow) → k < length (windows ++ window_of n low high ∷ []) →
          (slice_index_or (windows ++ window_of n low high ∷ []) k d).level + (k + 1) ≡ length index.levels
      order k d inside = elim (cases_lt k (length windows)) [
        | inl before ↦ ap (λ (window : LevelWindow). window.level + (k + 1))
            (get_or_append_left windows (window_of n low high ∷ []) d k before) ∙ above.order k d before
        | inr from ↦
            let last : k ≡ length windows = omega (arith, count, inside) in
            let is : slice_index_or (windows ++ window_of n low high ∷ []) k d ≡ window_of n low high =
            ap (λ (j : ℕ). slice_index_or (windows ++ window_of n low high ∷ []) j d) last
            ∙ get_or-append_seam windows (window_of n low high) [] d in
            ap (λ (window : LevelWindow). window.level + (k + 1)) is ∙ omega (arith, last, above.count)
      ]

-- ---- there is one list of windows

module _ (keys : List ℕ) (eps eps_rec : ℕ)
    (levels : List (List Segment)) (order : IsNonDecreasing keys) (index : IsLaidIndex keys eps eps_rec levels) where
  IsWindowAt-unique : (i q low high low' high' : ℕ) → i < length levels →
      IsWindowAt keys eps eps_rec levels i q low high → IsWindowAt keys eps eps_rec levels i q low' high' →
      (low ≡ low') × (high ≡ high')
  IsWindowAt-unique i q low high low' high' inside first second =
      let here = ascends keys eps eps_rec levels order index i (omega arith) in
      let p = points_at keys levels i in
      let bound = eps_at eps eps_rec i in
      let to = length (xs_at keys levels i) in
      let level = (index.each i inside).laid in
      let place : first.place ≡ second.place =
      IsPredecessor-unique (xs_at keys levels i) q first.place second.place first.last second.last in
      let from : second.segment.start ≤ first.place = omega (arith, place, second.from_start) in
      let end : first.place < second.e = omega (arith, place, second.to_end) in
      let same = HasRun-unique (SomeLineFits p bound) (level_at levels i) 0 to
      first.place first.segment second.segment first.e second.e level.cover first.run first.from_start first.to_end
      second.run from end in
      let within =
      HasRun-within (SomeLineFits p bound) (level_at levels i) 0 to first.segment first.e level.cover first.run in
      let steep =
      HasRun-each (IsSteepSegment p bound) (level_at levels i) to first.segment first.e level.steep first.run in
      let some : first.segment.start < first.e = omega (arith, first.from_start, first.to_end) in
      let rising = line_of_pair-positive
      p bound first.segment.start first.e first.segment.a first.segment.b here.ascends some within.1 steep.pair in
      let positive : 0 < first.segment.line.run = omega (arith, rising, ap (λ (l : Line). l.run) steep.line) in
      IsWindow-unique first.segment.line (slice_index (ys_at keys levels i) first.segment.start)
      (slice_index (ys_at keys levels i) (first.e - 1)) bound q (extent_at keys levels i)
      low high low' high' positive first.window (rw (same.0, same.1) second.window)

  same_window : (v w : LevelWindow) → v.level ≡ w.level → v.low ≡ w.low → v.high ≡ w.high → v ≡ w
  same_window v w level low high =
      ap (λ (n : ℕ). window_of n v.low v.high) level
      ∙ ap (λ (n : ℕ). window_of w.level n v.high) low ∙ ap (λ (n : ℕ). window_of w.level w.low n) high

  pub AreWindows-unique : (q : ℕ) (windows others : List LevelWindow) →
      AreWindows keys eps eps_rec levels q windows → AreWindows keys eps eps_rec levels q others → windows ≡ others
  AreWindows-unique q windows others first second = ext_get_or (window_of 0 0 0) windows others count each
    where
      count : length windows ≡ length others
      count = elim (cases_lt 0 (length keys)) [
        | inr none ↦ ap length (first.none (inl (omega arith)) ∙ sym (second.none (inl (omega arith))))
        | inl some ↦ elim (cases_lt q (slice_index keys 0)) [
          | inl below ↦ ap length (first.none (inr below) ∙ sym (second.none (inr below)))
          | inr from ↦ first.some some from ∙ sym (second.some some from)
        ]
      ]

      each : (k : ℕ) →
          k < length windows → slice_index_or windows k (window_of 0 0 0) ≡ slice_index_or others k (window_of 0 0 0)
      each k inside =
          let v = slice_index_or windows k (window_of 0 0 0) in
          let w = slice_index_or others k (window_of 0 0 0) in
          let level : v.level ≡ w.level = omega
          (arith, first.order k (window_of 0 0 0) inside, second.order k (window_of 0 0 0) (omega (arith, count))) in
          let other : IsWindowAt keys eps eps_rec levels v.level q w.low w.high =
          rw level (second.each k (window_of 0 0 0) (omega (arith, count))) in
          let same = IsWindowAt-unique v.level q v.low v.high w.low w.high
          (omega (arith, first.order k (window_of 0 0 0) inside)) (first.each k (window_of 0 0 0) inside) other in
          same_window v w level same.0 same.1
