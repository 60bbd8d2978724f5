-- What is merged and what is left make up the merge, and there is room for all that is left.
use Rattle.std.proofs.Common.{◌≡◌, ◌+◌, ◌<◌, ◌≤◌, length, vec_len, vec_capacity}
use Rattle.tombstones.specs.Parts.{key_at}
use Rattle.tombstones.proofs.Progress.{IsUnderWay}
use Rattle.tombstones.proofs.merged_in.Given as goal

abbrev pub invariant-rounds : goal.invariant-rounds
invariant-rounds l = record {
  under_way : IsUnderWay l.newer l.older l.deepest l.remaining.newer.now l.remaining.older.now l.merged.items;
  room : vec_len l.merged + (length l.remaining.newer.now + length l.remaining.older.now) ≤ vec_capacity l.merged;
}

abbrev pub invariant-steps : goal.invariant-steps
invariant-steps l = record {
  under_way :
      IsUnderWay l.newer l.older l.deepest l.heads.remaining.newer.now l.heads.remaining.older.now l.merged.items;
  room : vec_len l.merged + (length l.heads.remaining.newer.now + length l.heads.remaining.older.now)
      ≤ vec_capacity l.merged;
  new_key : l.heads.new_key ≡ key_at l.heads.remaining.newer.now 0;
  old_key : l.heads.old_key ≡ key_at l.heads.remaining.older.now 0;
  newer_left : l.sure < length l.heads.remaining.newer.now;
  older_left : l.sure < length l.heads.remaining.older.now;
  shorter : length l.heads.remaining.newer.now + length l.heads.remaining.older.now + l.initial.sure
      ≤ length l.initial.heads.remaining.newer.now + length l.initial.heads.remaining.older.now + l.sure;
}

abbrev pub invariant-loop-entry : goal.invariant-loop-entry
invariant-loop-entry l = record {
  under_way : IsUnderWay l.newer l.older l.deepest l.remaining.newer.now l.remaining.older.now l.merged.items;
  room : vec_len l.merged + (length l.remaining.newer.now + length l.remaining.older.now) ≤ vec_capacity l.merged;
}

abbrev pub decreases-rounds : goal.decreases-rounds
decreases-rounds l = length l.remaining.newer.now + length l.remaining.older.now

abbrev pub decreases-steps : goal.decreases-steps
decreases-steps l = l.sure

abbrev pub decreases-loop-entry : goal.decreases-loop-entry
decreases-loop-entry l = length l.remaining.newer.now + length l.remaining.older.now
