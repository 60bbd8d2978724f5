-- The window of a run's model holds what is looked for, as that of its line does.
use Rattle.std.proofs.Common.{◌≡◌, inl, inr, ℕ, ◌+◌, ◌-◌, ◌*◌, ◌/◌, ◌^◌, ◌<◌, ◌≤◌, List, [], ◌∷◌}
use Rattle.std.proofs.Common.{length, slice_index, slice_index_or, ℤ, pos, ◌+ℤ◌, ◌-ℤ◌, refl, ap, arith}
use Rattle.std.specs.Prelude.{min}
use Rattle.std.proofs.lemmas.Int.{ints, clamps}
use Rattle.std.proofs.lemmas.Bool.{cases_lt}
use Rattle.std.specs.List.Sorted.{IsNonDecreasing}
use Rattle.exact_cross.specs.declared.line.Line.{Line}
use Rattle.exact_cross.specs.declared.segment.Segment.{Segment}
use Rattle.exact_cross.specs.Lines.{SomeLineFits}
use Rattle.exact_cross.specs.Segments.{EachRun}
use Rattle.exact_cross.specs.Floors.{IsFloorAt}
use Rattle.exact_cross.proofs.FloorLemmas.{IsFloorAt-right, IsFloorAt-left}
use Rattle.window_search.specs.Searches.{lb, IsPredecessor}
use Rattle.window_search.specs.Windows.{IsNext, IsClose}
use Rattle.window_search.proofs.CallerLemmas.{IsLowerBound-lb, IsPredecessor-unique}
use Rattle.levels.specs.declared.model.RunModel.{RunModel}
use Rattle.exact_cross.specs.IndexLevels.{level_at, eps_at}
use Rattle.levels.specs.Indexes.{xs_at, ys_at, points_at, IsLaidIndex}
use Rattle.levels.specs.Lookups.{extent_at, HoldsAnswers}
use Rattle.levels.specs.Models.{IsEndOf, IsModelOf, clamped_at}
use Rattle.levels.proofs.SegmentLemmas.{run_at, end_at, first_x_at}
use Rattle.levels.proofs.LevelLemmas.{xs_at-above, xs_at-length}
use Rattle.levels.proofs.ModelLemmas.{model_holds}
use Rattle.levels.proofs.LookupLemmas.{IsRunLine, run_line, has_predecessor, last_at_most, close_above, next_above}
use Rattle.levels.proofs.LookupLemmas.{lb_above, closes_at_base, height_within, extent_at-base, extent_at-above}

-- a line has a floor at each key
floor_exists : (line : Line) (q : ℕ) → 0 < line.run → (f : ℤ) × IsFloorAt line q f
floor_exists line q positive = elim (cases_lt q line.x0) [
  | inl left ↦
      let fall = (line.rise * (line.x0 - q) + (line.run - 1)) / line.run in (
        line.y0 -ℤ pos ((line.rise * (line.x0 - q) + (line.run - 1)) / line.run),
        IsFloorAt-left line q (line.x0 - q) ((line.rise * (line.x0 - q) + (line.run - 1)) / line.run)
            (line.y0 -ℤ pos ((line.rise * (line.x0 - q) + (line.run - 1)) / line.run)) positive
            (omega arith) refl (omega (arith, ints)),
      )
  | inr right ↦ (
    line.y0 +ℤ pos (line.rise * (q - line.x0) / line.run),
    IsFloorAt-right line q (q - line.x0)
        (line.rise * (q - line.x0) / line.run) (line.y0 +ℤ pos (line.rise * (q - line.x0) / line.run)) positive
        (omega arith) refl (omega (arith, ints)),
  )
]

module _ (keys : List ℕ) (eps eps_rec : ℕ)
    (levels : List (List Segment)) (order : IsNonDecreasing keys) (index : IsLaidIndex keys eps eps_rec levels) where
  -- a run that is there has an end
  pub run_ends : (i run : ℕ) (d : Segment) → i < length levels → run < length (level_at levels i) →
      IsEndOf (level_at levels i)
      (length (xs_at keys levels i)) run (end_at (level_at levels i) run (length (xs_at keys levels i)))
  run_ends i run d inside run_inside =
      let to = length (xs_at keys levels i) in
      let at = run_at (λ segment e. Unit {0}) (SomeLineFits (points_at keys levels i) (eps_at eps eps_rec i)) 0 to
      (level_at levels i) run d run_inside (index.each i inside).laid.cover (all to (level_at levels i)) in
      record { next = at.next; last = at.last }
    where
      all : (to : ℕ) (segments : List Segment) → EachRun (λ segment e. Unit {0}) to segments
      all to [] = tt
      all to (segment ∷ later) = (tt, all to later)

  pub run_there : (i run q : ℕ) → IsPredecessor (xs_at keys levels (i + 1)) q run → run < length (level_at levels i)
  run_there i run q found = omega (arith, found.inside, xs_at-length keys levels i)

  -- the line of a run that is there
  pub line_there : length keys < 2 ^ 32 →
      (i run : ℕ) (d : Segment) (segments : List Segment) → eps_at eps eps_rec i ≤ 1048576 →
      i < length levels → run < length (level_at levels i) → segments ≡ level_at levels i →
      IsRunLine keys eps eps_rec levels order index i run
      (slice_index_or segments run d) (end_at (level_at levels i) run (length (xs_at keys levels i)))
  line_there few i run d segments bounded inside there own =
      let ends = run_ends i run d inside there in
      run_line keys eps eps_rec levels order index few i run d (slice_index_or segments run d)
      (end_at (level_at levels i) run (length (xs_at keys levels i))) bounded inside there
      (ap (λ (s : List Segment). slice_index_or s run d) own) ends.next ends.last

  -- what the window of a model needs and holds
  pub record HasWindow (i q : ℕ) (model : RunModel) : Type 0 where
    pub from_first : model.first ≤ q
    pub within : model.high ≤ extent_at keys levels i + eps_at eps eps_rec i
    pub holds : HoldsAnswers keys levels i q
        (clamped_at model q - 2 * eps_at eps eps_rec i) (min (clamped_at model q + 2) (extent_at keys levels i))

  pub model_window : length keys < 2 ^ 32 →
      (i run q : ℕ) (d : Segment) (model : RunModel) (e : ℕ) → eps_at eps eps_rec i ≤ 1048576 →
      i < length levels → q < 2 ^ 64 → IsPredecessor (xs_at keys levels (i + 1)) q run →
      IsEndOf (level_at levels i) (length (xs_at keys levels i)) run e →
      IsModelOf (slice_index_or (level_at levels i) run d).line
      (slice_index (xs_at keys levels i) (slice_index_or (level_at levels i) run d).start)
      (slice_index (ys_at keys levels i) (e - 1)) (eps_at eps eps_rec i) model →
      HasWindow i q model
  model_window few i run q d model e bounded inside short found ends is = record {
    from_first = omega (arith, is.starts, from);
    within =
        omega (
          arith,
          is.ends,
          height_within keys eps eps_rec levels order index i
              (extent_at keys levels i) (e - 1) (omega arith) refl (omega (arith, line.some, line.within)),
        );
    holds = record {
      position = λ base.
          let close = closes_at_base keys eps eps_rec levels order index i q place e base
          (omega (arith, short)) line.within has.1 last in
          clipped (lb keys q) close.0 close.1
          (omega (arith, extent_at-base keys levels i base, (IsLowerBound-lb keys q order).within));
      predecessor = λ other above also.
          let same = IsPredecessor-unique (xs_at keys levels i) q other place also last in
          let held = clipped place (close_above keys eps eps_rec levels order index i q place e above line.within has.1)
          (next_above keys eps eps_rec levels order index i place place above last.inside (omega arith) (omega arith))
          (omega (arith, extent_at-above keys levels i above, last.inside)) in
          (omega (arith, held.0, same), omega (arith, held.1, same));
      lower_bound = λ above.
          let bound = lb_above keys eps eps_rec levels order index i q place (omega arith) last in
          clipped (lb (xs_at keys levels i) q)
          (close_above keys eps eps_rec levels order index i q place e above line.within has.1)
          (next_above keys eps eps_rec levels order index i place
          (lb (xs_at keys levels i) q) above last.inside bound.0 bound.1)
          (omega (arith, extent_at-above keys levels i above, last.inside, bound.1));
    };
  }
    where
      segment : Segment
      segment = slice_index_or (level_at levels i) run d

      run_inside : run < length (level_at levels i)
      run_inside = run_there i run q found

      line : IsRunLine keys eps eps_rec levels order index i run (slice_index_or (level_at levels i) run d) e
      line = run_line keys eps eps_rec levels order index few i run d
          (slice_index_or (level_at levels i) run d) e bounded inside run_inside refl ends.next ends.last

      from : slice_index (xs_at keys levels i) (slice_index_or (level_at levels i) run d).start ≤ q
      from = omega (
        arith,
        ap (λ (l : List ℕ). slice_index l run) (xs_at-above keys levels i),
        first_x_at (xs_at keys levels i) (level_at levels i) run d run_inside,
        found.at_most,
      )

      place : ℕ
      place = (has_predecessor keys eps eps_rec levels order index d i run q inside found).0

      last : IsPredecessor
          (xs_at keys levels i) q (has_predecessor keys eps eps_rec levels order index d i run q inside found).0
      last = (has_predecessor keys eps eps_rec levels order index d i run q inside found).1

      has : ((slice_index_or (level_at levels i) run d).start ≤ place) × (place < e)
      has = line.has q place found last

      clipped : (next : ℕ) → IsClose (points_at keys levels i) e q place →
          IsNext (points_at keys levels i) place next → next ≤ extent_at keys levels i →
          (clamped_at model q - 2 * eps_at eps eps_rec i ≤ next)
          × (next ≤ min (clamped_at model q + 2) (extent_at keys levels i))
      clipped next close is_next within =
          let own = line.line in
          let floor = floor_exists (slice_index_or (level_at levels i) run d).line q own.positive in
          let held = model_holds
          (points_at keys levels i) (eps_at eps eps_rec i) (slice_index_or (level_at levels i) run d).line model
          (slice_index (ys_at keys levels i) (slice_index_or (level_at levels i) run d).start)
          (slice_index (ys_at keys levels i) (e - 1))
          (slice_index_or (level_at levels i) run d).start e q place next floor.0 is short from
          floor.1 own (last_at_most keys eps eps_rec levels order index i q place
          (slice_index_or (level_at levels i) run d).start e line.within has last)
          close is_next in
          (held.0, omega (arith, clamps, held.1, within))
