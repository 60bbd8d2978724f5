-- The model keeps the last height, and the first one is the position of the first x at level 0, and the place above it.
use Rattle.std.proofs.Common.{◌≡◌, ◌-◌, ◌∙◌, List, length, slice_index_or, sym, ap, refl, arith}
use Rattle.std.proofs.lemmas.List.{get_or_default}
use Rattle.exact_cross.specs.declared.segment.Segment.{Segment}
use Rattle.exact_cross.specs.IndexLevels.{level_at}
use Rattle.window_search.specs.Searches.{lb}
use Rattle.levels.specs.Indexes.{xs_at}
use Rattle.levels.proofs.LevelLemmas.{heights_few}
use Rattle.levels.proofs.SegmentLemmas.{end_at}
use Rattle.levels.proofs.LookupLemmas.{no_segment, ascends, height_above, lb_at_base}
use Rattle.levels.proofs.ModelLookup.{run_ends, line_there}
use Rattle.levels.proofs.index.Index.heights_of.Goals as goal

pub overflow_sub-high : goal.overflow_sub-high
overflow_sub-high c =
    let value = c.args.self.now in
    let end =
    end_at (level_at value.levels c.args.level) c.args.run (length (xs_at value.keys value.levels c.args.level)) in
    let ends = run_ends value.keys value.eps value.eps_rec value.levels c.requires.laid.never_falls
    c.requires.laid.index c.args.level c.args.run no_segment c.requires.inside c.requires.run in
    let model = c.model_of-model.ensures end no_segment ends in
    omega (arith, model.ends, c.eps_of.ensures.bound, c.from.ensures)

pub overflow_cast-high : goal.overflow_cast-high
overflow_cast-high c =
    let value = c.args.self.now in
    let level = c.args.level in
    let order = c.requires.laid.never_falls in
    let index = c.requires.laid.index in
    let end = end_at (level_at value.levels level) c.args.run (length (xs_at value.keys value.levels level)) in
    let ends = run_ends value.keys
    value.eps value.eps_rec value.levels order index level c.args.run no_segment c.requires.inside c.requires.run in
    let model = c.model_of-model.ensures end no_segment ends in
    let line = line_there value.keys value.eps value.eps_rec
    value.levels order index c.requires.laid.few level c.args.run no_segment (level_at value.levels level)
    (omega (arith, c.eps_of.ensures.bound, c.eps_of.ensures.bounded)) c.requires.inside c.requires.run refl in
    let here =
    ascends value.keys value.eps value.eps_rec value.levels order index level (omega (arith, c.requires.inside)) in
    let height = heights_few value.keys value.levels level here (end - 1) (omega (arith, line.some, line.within)) in
    omega (arith, model.ends, c.eps_of.ensures.bound, c.from.ensures, height, c.requires.laid.few)

pub bounds-segments-run : goal.bounds-segments-run
bounds-segments-run c = omega (arith, c.requires.run, ap length c.segments-segments.ensures.segments)

pub returns-then-level-eq0 : goal.returns-then-level-eq0
returns-then-level-eq0 c = λ e d ends.
    let value = c.args.self.now in
    let level = c.args.level in
    let order = c.requires.laid.never_falls in
    let index = c.requires.laid.index in
    let model = c.model_of-model.ensures e d ends in
    let line = line_there value.keys value.eps
    value.eps_rec value.levels order index c.requires.laid.few level c.args.run d (level_at value.levels level)
    (omega (arith, c.eps_of.ensures.bound, c.eps_of.ensures.bounded)) c.requires.inside c.requires.run refl in
    let start = (slice_index_or (level_at value.levels level) c.args.run d).start in (
      c.position.ensures ∙ ap (lb value.keys) model.starts
          ∙ lb_at_base value.keys value.eps value.eps_rec value.levels order index level start c.if-level-eq0.true
          (omega (arith, line.some, line.within)),
      omega (arith, model.ends, c.eps_of.ensures.bound, c.from.ensures),
    )

pub returns : goal.returns
returns c = λ e d ends.
    let value = c.args.self.now in
    let level = c.args.level in
    let order = c.requires.laid.never_falls in
    let index = c.requires.laid.index in
    let model = c.model_of-model.ensures e d ends in
    let line = line_there value.keys value.eps
    value.eps_rec value.levels order index c.requires.laid.few level c.args.run d (level_at value.levels level)
    (omega (arith, c.eps_of.ensures.bound, c.eps_of.ensures.bounded)) c.requires.inside c.requires.run refl in
    let start = (slice_index_or (level_at value.levels level) c.args.run d).start in
    let own : (slice_index_or c.segments-segments.result.now c.args.run no_segment).start ≡ start =
    ap (λ (s : List Segment). (slice_index_or s c.args.run no_segment).start) c.segments-segments.ensures.segments
    ∙ ap (λ (s : Segment). s.start)
    (get_or_default (level_at value.levels level) c.args.run no_segment d c.requires.run) in (
      own ∙ sym (height_above value.keys value.eps value.eps_rec value.levels order index level start
          (omega (arith, c.if-level-eq0.false)) (omega (arith, line.some, line.within))),
      omega (arith, model.ends, c.eps_of.ensures.bound, c.from.ensures),
    )
