-- The key that is read says in which half the lower bound is.
use Rattle.std.proofs.Common.{length}
use Rattle.hints.proofs.ManyLemmas.{half_room, half_holds}
use Rattle.hints.proofs.many.halved.Goals as goal

pub returns-clause-open : goal.returns-clause-open
returns-clause-open g c =
    half_room _ c.args.left c.from.result (length c.args.keys.now) _ _ c.from.ensures c.requires.more c.requires.open

pub returns-clause-near : goal.returns-clause-near
returns-clause-near g c = half_holds c.args.keys.now
    c.args.q c.args.place c.args.left c.from.result _ c.from.ensures c.requires.more c.requires.open c.read.ensures.key
