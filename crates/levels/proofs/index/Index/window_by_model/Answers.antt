-- The model of the run says what its line does, or one less.
use Rattle.std.proofs.Common.{length, arith}
use Rattle.std.proofs.lemmas.Int.{clamps}
use Rattle.exact_cross.specs.IndexLevels.{level_at}
use Rattle.levels.specs.Indexes.{xs_at}
use Rattle.levels.proofs.SegmentLemmas.{end_at}
use Rattle.levels.proofs.LookupLemmas.{no_segment, ascends}
use Rattle.levels.proofs.ModelLookup.{run_there, run_ends, model_window}
use Rattle.levels.proofs.index.Index.window_by_model.Goals as goal

pub extent_of-len-requires-clause-few : goal.extent_of-len-requires-clause-few
extent_of-len-requires-clause-few c =
    let value = c.args.self.now in
    let here = ascends value.keys value.eps value.eps_rec value.levels
    c.requires.laid.never_falls c.requires.laid.index c.args.level (omega (arith, c.requires.inside)) in
    omega (arith, here.few, c.requires.laid.few)

pub model_of-requires-clause-run : goal.model_of-requires-clause-run
model_of-requires-clause-run c =
    let value = c.args.self.now in
    run_there value.keys value.eps value.eps_rec
    value.levels c.requires.laid.never_falls c.requires.laid.index c.args.level c.args.run c.args.q c.requires.run

pub window-requires-clause-from_first : goal.window-requires-clause-from_first
window-requires-clause-from_first c =
    let value = c.args.self.now in
    let levels = value.levels in
    let level = c.args.level in
    let order = c.requires.laid.never_falls in
    let index = c.requires.laid.index in
    let there =
    run_there value.keys value.eps value.eps_rec levels order index level c.args.run c.args.q c.requires.run in
    let ends = run_ends
    value.keys value.eps value.eps_rec levels order index level c.args.run no_segment c.requires.inside there in
    let end = end_at (level_at levels level) c.args.run (length (xs_at value.keys levels level)) in
    let window = model_window value.keys value.eps value.eps_rec
    levels order index c.requires.laid.few level c.args.run c.args.q no_segment c.model_of.result.now end
    (omega (arith, c.eps_of-eps.ensures.bound, c.eps_of-eps.ensures.bounded)) c.requires.inside
    (omega (arith, c.ranges.q)) c.requires.run ends (c.model_of.ensures end no_segment ends) in
    window.from_first

pub window-requires-clause-within : goal.window-requires-clause-within
window-requires-clause-within c =
    let value = c.args.self.now in
    let levels = value.levels in
    let level = c.args.level in
    let order = c.requires.laid.never_falls in
    let index = c.requires.laid.index in
    let there =
    run_there value.keys value.eps value.eps_rec levels order index level c.args.run c.args.q c.requires.run in
    let ends = run_ends
    value.keys value.eps value.eps_rec levels order index level c.args.run no_segment c.requires.inside there in
    let end = end_at (level_at levels level) c.args.run (length (xs_at value.keys levels level)) in
    let window = model_window value.keys value.eps value.eps_rec
    levels order index c.requires.laid.few level c.args.run c.args.q no_segment c.model_of.result.now end
    (omega (arith, c.eps_of-eps.ensures.bound, c.eps_of-eps.ensures.bounded)) c.requires.inside
    (omega (arith, c.ranges.q)) c.requires.run ends (c.model_of.ensures end no_segment ends) in
    omega (arith, window.within, c.extent_of-len.ensures, c.eps_of-eps.ensures.bound)

pub returns-clause-order : goal.returns-clause-order
returns-clause-order c =
    let value = c.args.self.now in
    let levels = value.levels in
    let level = c.args.level in
    let order = c.requires.laid.never_falls in
    let index = c.requires.laid.index in
    let there =
    run_there value.keys value.eps value.eps_rec levels order index level c.args.run c.args.q c.requires.run in
    let ends = run_ends
    value.keys value.eps value.eps_rec levels order index level c.args.run no_segment c.requires.inside there in
    let end = end_at (level_at levels level) c.args.run (length (xs_at value.keys levels level)) in
    let window = model_window value.keys value.eps value.eps_rec
    levels order index c.requires.laid.few level c.args.run c.args.q no_segment c.model_of.result.now end
    (omega (arith, c.eps_of-eps.ensures.bound, c.eps_of-eps.ensures.bounded)) c.requires.inside
    (omega (arith, c.ranges.q)) c.requires.run ends (c.model_of.ensures end no_segment ends) in
    omega (
      arith,
      clamps,
      window.within,
      c.extent_of-len.ensures,
      c.eps_of-eps.ensures.bound,
      c.window.ensures.low,
      c.window.ensures.high,
    )

pub returns-clause-holds : goal.returns-clause-holds
returns-clause-holds c =
    let value = c.args.self.now in
    let levels = value.levels in
    let level = c.args.level in
    let order = c.requires.laid.never_falls in
    let index = c.requires.laid.index in
    let there =
    run_there value.keys value.eps value.eps_rec levels order index level c.args.run c.args.q c.requires.run in
    let ends = run_ends
    value.keys value.eps value.eps_rec levels order index level c.args.run no_segment c.requires.inside there in
    let end = end_at (level_at levels level) c.args.run (length (xs_at value.keys levels level)) in
    let window = model_window value.keys value.eps value.eps_rec
    levels order index c.requires.laid.few level c.args.run c.args.q no_segment c.model_of.result.now end
    (omega (arith, c.eps_of-eps.ensures.bound, c.eps_of-eps.ensures.bounded)) c.requires.inside
    (omega (arith, c.ranges.q)) c.requires.run ends (c.model_of.ensures end no_segment ends) in
    rw (c.window.ensures.low, c.window.ensures.high, c.eps_of-eps.ensures.bound, c.extent_of-len.ensures) window.holds
