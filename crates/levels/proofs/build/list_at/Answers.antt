-- Level 0 has the x of the keys' points, and a level above keeps its own.
use Rattle.levels.proofs.LevelLemmas.{xs_at-base}
use Rattle.levels.proofs.build.list_at.Goals as goal

pub returns-then-i-eq0 : goal.returns-then-i-eq0
returns-then-i-eq0 c = rw (c.if-i-eq0.true, xs_at-base) c.points.ensures.xs

pub returns : goal.returns
returns c = c.firsts_at.ensures c.args.points.now c.requires.levels.0 c.requires.levels.1 c.requires.levels.2
