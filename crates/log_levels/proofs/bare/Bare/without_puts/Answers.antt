use Rattle.std.proofs.Common.{arith}
use Rattle.map_level.proofs.LevelLemmas.{no_entry}
use Rattle.log_levels.proofs.BareLemmas.{value-behind}
use Rattle.log_levels.proofs.bare.Bare.without_puts.Goals as goal

pub loop-entry-preserved : goal.loop-entry-preserved
loop-entry-preserved c = λ key inside.
    let (within, put) = c.without_put-bare.ensures key inside in
    let (before, none) = c.loop-entry.invariant key within in (
      before,
      value-behind c.args.entries.now c.loop-entry.entry-index no_entry key
          (omega (arith, c.loop-entry-test.true)) none put,
    )
