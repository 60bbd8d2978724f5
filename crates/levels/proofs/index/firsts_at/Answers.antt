-- The level keeps them.
use Rattle.std.proofs.Common.{◌∙◌, ap}
use Rattle.levels.specs.declared.level.Level.{Level}
use Rattle.levels.proofs.index.firsts_at.Goals as goal

pub returns : goal.returns
returns c = λ keys eps eps_rec all.
    c.deref.ensures.value ∙ ap (λ (l : Level). l.xs.items) c.index-levels-i.is
    ∙ all.kept c.args.i c.index-levels-i.result c.requires.above c.requires.inside
