-- A step takes the least key off the lists, and its entry goes to the end where it is kept.
use Rattle.std.proofs.Common.{arith}
use Rattle.tombstones.proofs.Progress.{under_way_step}
use Rattle.tombstones.proofs.merged_in.Goals as goal

pub steps-preserved : goal.steps-preserved
steps-preserved c =
    let taken = c.take_lesser-entry.ensures in
    record {
      under_way = under_way_step _ _ _ _ _ _ _ _ _ _ c.steps.invariant.under_way
          taken.newer_ascending taken.older_ascending taken.least taken.taken c.push_kept.ensures.items;
      room = omega (arith, c.push_kept.ensures.len);
      new_key = taken.new_key;
      old_key = taken.old_key;
      newer_left = omega arith;
      older_left = omega arith;
      shorter = omega arith;
    }

pub loop-entry-preserved : goal.loop-entry-preserved
loop-entry-preserved c =
    let taken = c.in-Some.ensures in
    record {
      under_way = under_way_step _ _ _ _ _ _ _ _ _ _ c.loop-entry.invariant.under_way
          taken.newer_ascending taken.older_ascending taken.least taken.taken c.push_kept-in-Some.ensures.items;
      room = omega (arith, c.push_kept-in-Some.ensures.len);
    }
