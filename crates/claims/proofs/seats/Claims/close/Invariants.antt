-- One seat has what all seats that are not in the list any more drew.
use Rattle.std.proofs.Common.{◌≡◌, [], All, vec_len}
use Rattle.claims.proofs.Gathered.{HasGathered}
use Rattle.claims.proofs.seats.Claims.close.Given as goal

abbrev pub invariant-loop-other : goal.invariant-loop-other
invariant-loop-other l = record {
  table : l.all.table_id ≡ l.table.shared.table_id;
  empty : l.all.me.1 ≡ [];
  gathered : HasGathered l.fn.seats.items l.seats.items l.all.me.0;
  own : All (λ seat. seat.origin ≡ l.fn.self.origin) l.seats.items;
}

abbrev pub decreases-loop-other : goal.decreases-loop-other
decreases-loop-other l = vec_len l.seats
