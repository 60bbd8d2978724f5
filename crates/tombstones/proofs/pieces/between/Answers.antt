use Rattle.tombstones.proofs.PartLemmas.{between_cuts}
use Rattle.tombstones.proofs.pieces.between.Goals as goal

pub returns : goal.returns
returns c =
    between_cuts c.args.low c.args.high c.args.entries.now c.cut_at.result.0.now c.cut_at.result.1.now
    c.cut_at-2.result.0.now c.cut_at-2.result.1.now c.requires c.cut_at.ensures.cut c.cut_at-2.ensures.cut
