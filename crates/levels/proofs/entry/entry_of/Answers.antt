-- The first x of the runs one level down are few enough.
use Rattle.std.proofs.Common.{◌+◌, ◌*◌, ℕ, length, ap, arith}
use Rattle.levels.proofs.StoredLemmas.{levels_few}
use Rattle.levels.proofs.EntryLemmas.{IsEntry-down, share-down}
use Rattle.levels.proofs.entry.entry_of.Goals as goal

pub overflow_cast-result : goal.overflow_cast-result
overflow_cast-result c =
    let stored = c.requires.stored.1 in
    omega (
      arith,
      levels_few c.args._keys.now c.requires.stored.0 c.args.eps_rec c.args.levels.now stored,
      stored.first.few,
      c.loop-top.invariant.from,
    )

pub loop-top-preserved : goal.loop-top-preserved
loop-top-preserved c =
    let inv = c.loop-top.invariant in
    let share = share-down (4 * (2 * c.args.eps_rec + 3)) (length c.args.levels.now)
    c.loop-top.top c.loop-top.most c.saturating_mul-most.result c.loop-top-test.true inv.from inv.share
    (omega
    (arith, c.saturating_mul-most.ensures, ap (λ (e : ℕ). c.loop-top.most * (4 * (2 * e + 3))) c.from.ensures)) in
    record {
      from = omega (arith, inv.from);
      entry = IsEntry-down c.args._keys.now c.requires.stored.0 c.args.eps_rec c.args.levels.now
          c.loop-top.top c.len-count.result c.saturating_mul-most.result c.index-levels-top.result c.requires.stored.1
          c.loop-top-test.true inv.from c.index-levels-top.is
          (omega (arith, c.len-count.ensures, c.index-levels-top.result.xs.ok.0)) share c.if-count-most.false;
      share = share;
    }
