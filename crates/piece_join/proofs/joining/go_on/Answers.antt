-- Where they meet, the piece's segments from there on are those from the place on.
use Rattle.std.proofs.Common.{ℕ, drop}
use Rattle.exact_cross.specs.PointLists.{points_in}
use Rattle.exact_cross.specs.Segmentation.{IsSegmentation}
use Rattle.hulls.specs.Hulls.{bound_of}
use Rattle.std.proofs.lemmas.List.{take_rest}
use Rattle.piece_join.proofs.Begun.{IsSegmentation-met, so_far}
use Rattle.piece_join.proofs.joining.go_on.Goals as goal

pub take_rest-requires-clause-meets : goal.take_rest-requires-clause-meets
take_rest-requires-clause-meets g c =
    let inv = c.loop-at.invariant in
    let piece = c.args.piece.now in
    let next = c.first_from-next.result in
    rw (inv.bound, take_rest piece next) (
      c.loop-at.at,
      inv.begun,
      IsSegmentation-met (points_in c.args.points)
          (bound_of c.args.hulls.now) c.args.end c.requires.piece.0 next c.loop-at.at piece _ c.if-next-piece.true
          c.if-piece-next.true c.requires.piece.1,
    )

pub returns-then-piece-next-clause-cost : goal.returns-then-piece-next-clause-cost
returns-then-piece-next-clause-cost g c =
    let inv = c.loop-at.invariant in
    let piece = c.args.piece.now in
    let next = c.first_from-next.result in
    let p = points_in c.args.points in
    let met = IsSegmentation-met p (bound_of c.args.hulls.now) c.args.end
    c.requires.piece.0 next c.loop-at.at piece _ c.if-next-piece.true c.if-piece-next.true c.requires.piece.1 in
    let cost = rw (inv.bound, take_rest piece next) at c.take_rest.ensures.cost in
    so_far (λ (at : ℕ). IsSegmentation p (bound_of c.args.hulls.now) at c.args.end (drop next piece))
    c.take_rest.result c.take_rest.new.steps c.loop-at.steps c.loop-at.at c.args.steps.now c.args.at
    cost met inv.cost
