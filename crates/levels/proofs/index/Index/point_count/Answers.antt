-- Level 0 has the keys' points, and no level has more than there are keys.
use Rattle.std.proofs.Common.{◌≡◌, ◌<◌, length, ap, arith}
use Rattle.levels.specs.Indexes.{xs_at}
use Rattle.levels.specs.Stored.{segments_of}
use Rattle.levels.proofs.LevelLemmas.{xs_at-base}
use Rattle.levels.proofs.LookupLemmas.{ascends}
use Rattle.levels.proofs.index.Index.point_count.Goals as goal

pub overflow_cast-result : goal.overflow_cast-result
overflow_cast-result c =
    let own = c.self.inside in
    let levels = segments_of own.stored.items in
    let first = c.self.invariant.stored.first in
    let inside : c.args.i < length levels = rw (← c.self.view_is) at c.requires in
    let here = ascends own.keys own.bounds.eps
    own.bounds.eps_rec levels first.never_falls c.self.invariant.stored.index c.args.i (omega (arith, inside)) in
    let is : c.firsts.result.now ≡ xs_at own.keys levels c.args.i = rw (← c.self.view_is) at c.firsts.ensures in
    omega (arith, ap length is, here.few, first.few)

pub returns-then-i-eq0 : goal.returns-then-i-eq0
returns-then-i-eq0 c = rw (c.if-i-eq0.true, xs_at-base, ← c.self.view_is) c.point_count.ensures
