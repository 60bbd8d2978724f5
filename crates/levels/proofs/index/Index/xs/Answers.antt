-- Level 0 has the x of the keys' points.
use Rattle.std.proofs.Common.{◌∙◌, ap}
use Rattle.key_points.specs.KeyPoints.{xs_of}
use Rattle.levels.proofs.LevelLemmas.{xs_at-base}
use Rattle.levels.proofs.index.Index.xs.Goals as goal

pub returns-then-i-eq0 : goal.returns-then-i-eq0
returns-then-i-eq0 c =
    rw (c.if-i-eq0.true, xs_at-base, ← c.self.view_is)
    (c.in_ok-from_slice.ensures.items ∙ c.points-list.ensures.xs ∙ ap xs_of c.in_ok-points.ensures)
