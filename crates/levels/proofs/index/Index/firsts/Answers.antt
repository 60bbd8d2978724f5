-- What the level keeps.
use Rattle.std.proofs.Common.{◌∙◌, sym, ap, List, subst}
use Rattle.levels.specs.declared.level.Level.{Level}
use Rattle.levels.specs.Indexes.{xs_at}
use Rattle.levels.specs.Stored.{segments_of, AreLevels}
use Rattle.levels.proofs.index.Index.firsts.Goals as goal

pub returns : goal.returns
returns c =
    let own = c.self.inside in
    let all = subst (AreLevels own.keys own.bounds.eps own.bounds.eps_rec)
    (sym c.deref.ensures.value) c.self.invariant.stored.first in
    rw (← c.self.view_is)
    (c.firsts_at.ensures own.keys own.bounds.eps own.bounds.eps_rec all
    ∙ ap (λ (l : List Level). xs_at own.keys (segments_of l) c.args.i) c.deref.ensures.value)
