-- Splitting keeps the rule: each worker has one seat, and nothing is drawn yet.
use Rattle.std.proofs.Common.{arith, rules}
use Rattle.claims.proofs.Steps.{splits}
use Rattle.claims.proofs.seats.Claims.new.Goals as goal

pub split_seat-seat-requires : goal.split_seat-seat-requires
split_seat-seat-requires c =
    let inv = c.loop-seated.invariant in (
      inv.table,
      search rules,
      splits c.in_ok-table.table.shared.key c.loop-seated.rest.id c.loop-seated.rest.me.0
          (omega (arith, inv.left)) inv.live inv.fresh,
    )
