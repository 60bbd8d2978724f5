-- The levels' shares of steps multiply.
use Rattle.std.proofs.Common.{◌≡◌, ◌+◌, ◌-◌, length, arith}
use Rattle.levels.proofs.CostLemmas.{level-more}
use Rattle.levels.proofs.index.Index.run_by_levels.Goals as goal

pub loop-level-init : goal.loop-level-init
loop-level-init g c = record {
  inside = c.entry-level.ensures.entry.inside c.requires.some;
  run = c.entry_run-run.ensures.found;
  cost = c.entry_run-run.ensures.cost;
}

pub loop-level-preserved : goal.loop-level-preserved
loop-level-preserved g c =
    let value = c.args.self.now in
    let inv = c.loop-level.invariant in
    let level = c.loop-level.level in
    let down : level - 1 + 1 ≡ level = omega (arith, c.loop-level-test.true) in
    record {
      inside = omega (arith, inv.inside);
      run = rw down c.predecessor_below-run.ensures.found;
      cost = level-more value.eps_rec (length value.levels - 1 - level)
          (length value.levels - 1 - (level - 1)) c.args.steps.now c.loop-level.steps c.predecessor_below-run.new.steps
          (omega (arith, inv.inside, c.loop-level-test.true)) inv.cost c.predecessor_below-run.ensures.cost;
    }
