-- A centre has an answer.
use Rattle.std.proofs.Common.{subst, arith}
use Rattle.std.specs.Prelude.{All}
use Rattle.zorder.specs.Codes.{IsCode}
use Rattle.near.proofs.BoxesLemmas.{an_answer}
use Rattle.near.proofs.search.room_for.Goals as goal

pub returns-clause-answered : goal.returns-clause-answered
returns-clause-answered c =
    let d = c.args.boxes.now.dims in
    an_answer d c.args.centre.now c.codes.ensures.dimension
    (omega (arith, c.told-centre, c.codes.ensures.dimension)) c.args.boxes.now.codes c.args.k
    (subst (All (IsCode d)) c.codes.ensures.codes c.codes.ensures.each)
