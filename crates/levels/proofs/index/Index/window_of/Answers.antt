-- The line of the run found is within the level's bound at its points, and the run has the predecessor.
use Rattle.std.proofs.Common.{◌≡◌, ◌-◌, ℕ, List, length, slice_index, slice_index_or, sym, ap, ◌∙◌, arith}
use Rattle.exact_cross.specs.declared.segment.Segment.{Segment}
use Rattle.exact_cross.specs.IndexLevels.{level_at}
use Rattle.window_search.specs.Searches.{lb, IsPredecessor}
use Rattle.window_search.proofs.CallerLemmas.{IsLowerBound-lb, IsPredecessor-unique}
use Rattle.levels.specs.Indexes.{xs_at, ys_at, points_at}
use Rattle.levels.proofs.LevelLemmas.{xs_at-length}
use Rattle.levels.proofs.SegmentLemmas.{end_at}
use Rattle.levels.proofs.LookupLemmas.{no_segment, ascends, line_with, height_within, has_predecessor}
use Rattle.levels.proofs.LookupLemmas.{last_at_most, close_above, next_above, lb_above}
use Rattle.levels.proofs.LookupLemmas.{closes_at_base, window_at, extent_at-base, extent_at-above}
use Rattle.levels.proofs.ModelLookup.{run_ends, run_there, line_there}
use Rattle.levels.proofs.index.Index.window_of.Goals as goal

pub heights_of-low-requires-clause-run : goal.heights_of-low-requires-clause-run
heights_of-low-requires-clause-run c =
    let value = c.args.self.now in
    run_there value.keys value.eps value.eps_rec
    value.levels c.requires.laid.never_falls c.requires.laid.index c.args.level c.args.run c.args.q c.requires.run

pub bounds-segments-run : goal.bounds-segments-run
bounds-segments-run c =
    omega (
      arith,
      c.requires.run.inside,
      xs_at-length c.args.self.now.keys c.args.self.now.levels c.args.level,
      ap length c.segments-segments.ensures.segments,
    )

pub extent_of-len-requires-clause-few : goal.extent_of-len-requires-clause-few
extent_of-len-requires-clause-few c =
    let value = c.args.self.now in
    let here = ascends value.keys value.eps value.eps_rec value.levels
    c.requires.laid.never_falls c.requires.laid.index c.args.level (omega (arith, c.requires.inside)) in
    omega (arith, here.few, c.requires.laid.few)

pub window-requires-clause-in_range : goal.window-requires-clause-in_range
window-requires-clause-in_range c =
    let keys = c.args.self.now.keys in
    let eps = c.args.self.now.eps in
    let eps_rec = c.args.self.now.eps_rec in
    let levels = c.args.self.now.levels in
    let level = c.args.level in
    let order = c.requires.laid.never_falls in
    let index = c.requires.laid.index in
    let there = run_there keys eps eps_rec levels order index level c.args.run c.args.q c.requires.run in
    let line = line_there keys
    eps eps_rec levels order index c.requires.laid.few level c.args.run no_segment c.segments-segments.result.now
    (omega (arith, c.eps_of-eps.ensures.bound, c.eps_of-eps.ensures.bounded))
    c.requires.inside there c.segments-segments.ensures.segments in
    let segment = slice_index_or c.segments-segments.result.now c.args.run no_segment in
    let end = end_at (level_at levels level) c.args.run (length (xs_at keys levels level)) in
    line.in_range

pub window-requires-clause-rises : goal.window-requires-clause-rises
window-requires-clause-rises c =
    let keys = c.args.self.now.keys in
    let eps = c.args.self.now.eps in
    let eps_rec = c.args.self.now.eps_rec in
    let levels = c.args.self.now.levels in
    let level = c.args.level in
    let order = c.requires.laid.never_falls in
    let index = c.requires.laid.index in
    let there = run_there keys eps eps_rec levels order index level c.args.run c.args.q c.requires.run in
    let line = line_there keys
    eps eps_rec levels order index c.requires.laid.few level c.args.run no_segment c.segments-segments.result.now
    (omega (arith, c.eps_of-eps.ensures.bound, c.eps_of-eps.ensures.bounded))
    c.requires.inside there c.segments-segments.ensures.segments in
    let segment = slice_index_or c.segments-segments.result.now c.args.run no_segment in
    let end = end_at (level_at levels level) c.args.run (length (xs_at keys levels level)) in
    let heights = c.heights_of-low.ensures end no_segment
    (run_ends keys eps eps_rec levels order index level c.args.run no_segment c.requires.inside there) in
    let lowest : c.heights_of-low.result.0 ≡ slice_index (ys_at keys levels level) segment.start =
    heights.0 ∙ ap
    (λ (s : List Segment). slice_index (ys_at keys levels level) (slice_index_or s c.args.run no_segment).start)
    (sym c.segments-segments.ensures.segments) in
    let highest : c.heights_of-low.result.1 ≡ slice_index (ys_at keys levels level) (end - 1) = heights.1 in
    let here = ascends keys eps eps_rec levels order index level (omega (arith, c.requires.inside)) in
    omega (
      arith,
      lowest,
      highest,
      here.ascends.y_never_falls segment.start
          (end - 1) (omega (arith, line.some)) (omega (arith, line.some, line.within)),
    )

pub window-requires-clause-within : goal.window-requires-clause-within
window-requires-clause-within c =
    let keys = c.args.self.now.keys in
    let eps = c.args.self.now.eps in
    let eps_rec = c.args.self.now.eps_rec in
    let levels = c.args.self.now.levels in
    let level = c.args.level in
    let order = c.requires.laid.never_falls in
    let index = c.requires.laid.index in
    let there = run_there keys eps eps_rec levels order index level c.args.run c.args.q c.requires.run in
    let line = line_there keys
    eps eps_rec levels order index c.requires.laid.few level c.args.run no_segment c.segments-segments.result.now
    (omega (arith, c.eps_of-eps.ensures.bound, c.eps_of-eps.ensures.bounded))
    c.requires.inside there c.segments-segments.ensures.segments in
    let segment = slice_index_or c.segments-segments.result.now c.args.run no_segment in
    let end = end_at (level_at levels level) c.args.run (length (xs_at keys levels level)) in
    let heights = c.heights_of-low.ensures end no_segment
    (run_ends keys eps eps_rec levels order index level c.args.run no_segment c.requires.inside there) in
    let lowest : c.heights_of-low.result.0 ≡ slice_index (ys_at keys levels level) segment.start =
    heights.0 ∙ ap
    (λ (s : List Segment). slice_index (ys_at keys levels level) (slice_index_or s c.args.run no_segment).start)
    (sym c.segments-segments.ensures.segments) in
    let highest : c.heights_of-low.result.1 ≡ slice_index (ys_at keys levels level) (end - 1) = heights.1 in
    omega (
      arith,
      highest,
      height_within keys eps eps_rec levels order index level c.extent_of-len.result
          (end - 1) (omega (arith, c.requires.inside))
          c.extent_of-len.ensures (omega (arith, line.some, line.within)),
    )

pub returns-clause-exact : goal.returns-clause-exact
returns-clause-exact c =
    let keys = c.args.self.now.keys in
    let eps = c.args.self.now.eps in
    let eps_rec = c.args.self.now.eps_rec in
    let levels = c.args.self.now.levels in
    let level = c.args.level in
    let order = c.requires.laid.never_falls in
    let index = c.requires.laid.index in
    let there = run_there keys eps eps_rec levels order index level c.args.run c.args.q c.requires.run in
    let line = line_there keys
    eps eps_rec levels order index c.requires.laid.few level c.args.run no_segment c.segments-segments.result.now
    (omega (arith, c.eps_of-eps.ensures.bound, c.eps_of-eps.ensures.bounded))
    c.requires.inside there c.segments-segments.ensures.segments in
    let segment = slice_index_or c.segments-segments.result.now c.args.run no_segment in
    let end = end_at (level_at levels level) c.args.run (length (xs_at keys levels level)) in
    let heights = c.heights_of-low.ensures end no_segment
    (run_ends keys eps eps_rec levels order index level c.args.run no_segment c.requires.inside there) in
    let lowest : c.heights_of-low.result.0 ≡ slice_index (ys_at keys levels level) segment.start =
    heights.0 ∙ ap
    (λ (s : List Segment). slice_index (ys_at keys levels level) (slice_index_or s c.args.run no_segment).start)
    (sym c.segments-segments.ensures.segments) in
    let highest : c.heights_of-low.result.1 ≡ slice_index (ys_at keys levels level) (end - 1) = heights.1 in
    let predecessor = has_predecessor
    keys eps eps_rec levels order index no_segment level c.args.run c.args.q c.requires.inside c.requires.run in
    let place : ℕ = predecessor.0 in
    let found : IsPredecessor (xs_at keys levels level) c.args.q place = predecessor.1 in
    window_at keys eps eps_rec levels order index level c.args.run c.args.q
    place segment end c.eps_of-eps.result c.heights_of-low.result.0 c.heights_of-low.result.1 c.extent_of-len.result
    c.window.result.0 c.window.result.1 line
    c.requires.run found c.eps_of-eps.ensures.bound lowest highest c.extent_of-len.ensures c.window.ensures.exact

pub returns-clause-holds : goal.returns-clause-holds
returns-clause-holds c =
    let keys = c.args.self.now.keys in
    let eps = c.args.self.now.eps in
    let eps_rec = c.args.self.now.eps_rec in
    let levels = c.args.self.now.levels in
    let level = c.args.level in
    let order = c.requires.laid.never_falls in
    let index = c.requires.laid.index in
    let there = run_there keys eps eps_rec levels order index level c.args.run c.args.q c.requires.run in
    let line = line_there keys
    eps eps_rec levels order index c.requires.laid.few level c.args.run no_segment c.segments-segments.result.now
    (omega (arith, c.eps_of-eps.ensures.bound, c.eps_of-eps.ensures.bounded))
    c.requires.inside there c.segments-segments.ensures.segments in
    let segment = slice_index_or c.segments-segments.result.now c.args.run no_segment in
    let end = end_at (level_at levels level) c.args.run (length (xs_at keys levels level)) in
    let heights = c.heights_of-low.ensures end no_segment
    (run_ends keys eps eps_rec levels order index level c.args.run no_segment c.requires.inside there) in
    let lowest : c.heights_of-low.result.0 ≡ slice_index (ys_at keys levels level) segment.start =
    heights.0 ∙ ap
    (λ (s : List Segment). slice_index (ys_at keys levels level) (slice_index_or s c.args.run no_segment).start)
    (sym c.segments-segments.ensures.segments) in
    let highest : c.heights_of-low.result.1 ≡ slice_index (ys_at keys levels level) (end - 1) = heights.1 in
    let predecessor = has_predecessor
    keys eps eps_rec levels order index no_segment level c.args.run c.args.q c.requires.inside c.requires.run in
    let place : ℕ = predecessor.0 in
    let found : IsPredecessor (xs_at keys levels level) c.args.q place = predecessor.1 in
    let has = line.has c.args.q place c.requires.run found in
    let own = line_with keys eps eps_rec levels order index level c.args.run segment end c.eps_of-eps.result
    c.heights_of-low.result.0 c.heights_of-low.result.1 line c.eps_of-eps.ensures.bound lowest highest in
    let last =
    last_at_most keys eps eps_rec levels order index level c.args.q place segment.start end line.within has found in
    let holds = c.window.ensures.holds (points_at keys levels level) segment.start end place in
    record {
      position = λ base.
          let close = closes_at_base keys eps eps_rec levels order index level c.args.q place end base
          (omega (arith, c.ranges.q)) line.within has.1 found in
          holds (lb keys c.args.q) own last close.0 close.1
          (omega (
            arith,
            c.extent_of-len.ensures,
            extent_at-base keys levels level base,
            (IsLowerBound-lb keys c.args.q order).within,
          ));
      predecessor = λ other above is.
          let same = IsPredecessor-unique (xs_at keys levels level) c.args.q other place is found in
          let held = holds place own last
          (close_above keys eps eps_rec levels order index level c.args.q place end above line.within has.1)
          (next_above keys eps eps_rec levels order index level place place above found.inside
          (omega arith) (omega arith))
          (omega (arith, c.extent_of-len.ensures, extent_at-above keys levels level above, found.inside)) in
          (omega (arith, held.0, same), omega (arith, held.1, same));
      lower_bound = λ above.
          let bound = lb_above keys eps eps_rec levels order index level c.args.q place
          (omega (arith, c.requires.inside)) found in
          holds (lb (xs_at keys levels level) c.args.q) own last
          (close_above keys eps eps_rec levels order index level c.args.q place end above line.within has.1)
          (next_above keys eps eps_rec levels order index level place
          (lb (xs_at keys levels level) c.args.q) above found.inside bound.0 bound.1)
          (omega (arith, c.extent_of-len.ensures, extent_at-above keys levels level above, found.inside, bound.1));
    }
