-- After each piece the segments reach further, and after the last one to the end of all.
use Rattle.std.proofs.Common.{◌∙◌, arith}
use Rattle.piece_join.proofs.CutLemmas.{edge_next_within, edge_last}
use Rattle.piece_join.proofs.pieces.joined.Goals as goal

pub go_on-requires-clause-end : goal.go_on-requires-clause-end
go_on-requires-clause-end g c =
    let work = c.args.work.now in
    omega (
      arith,
      c.edge-end.ensures,
      c.len-to.ensures,
      edge_next_within _ c.loop-number.number work.cuts.now work.inside (omega arith),
    )

pub loop-number-preserved : goal.loop-number-preserved
loop-number-preserved g c =
    let work = c.args.work.now in
    let inv = c.loop-number.invariant in
    let next = rw (inv.bound, c.len-to.ensures) at c.in_ok-at.ensures in
    record {
      begun = next.begun;
      within = next.within;
      whole = λ last. next.whole (c.edge-end.ensures ∙ edge_last _ _ work.cuts.now last);
      room = omega (arith, inv.room, next.room);
      bound = next.bound;
      cost = omega (arith, inv.cost, next.cost);
    }
