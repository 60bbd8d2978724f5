-- The seats so far are fresh, and the first seat stands for the workers that are left.
use Rattle.std.proofs.Common.{◌≡◌, ◌+◌, [], All, length}
use Rattle.claims.specs.Claims.{IsFresh}
use Rattle.claims.proofs.seats.Claims.new.Given as goal

abbrev pub invariant-loop-seated : goal.invariant-loop-seated
invariant-loop-seated l = record {
  table : l.rest.table_id ≡ l.table.shared.table_id;
  empty : l.rest.me.1 ≡ [];
  pieces : l.rest.me.0.pieces ≡ l.pieces;
  fresh : l.rest.me.0.drawn ≡ [];
  live : l.rest.me.0.ended ≡ 0;
  left : l.rest.me.0.workers + l._seated ≡ l.workers + 1;
  count : length l.seats.items + 1 ≡ l._seated;
  seats : All (IsFresh (record { table = l.table.shared.table_id; pieces = l.pieces })) l.seats.items;
}
