-- Level 0 has the y of the keys' points, and a level above the places.
use Rattle.std.proofs.Common.{◌≡◌, ◌+◌, ◌-◌, ◌<◌, ◌∙◌, ℕ, List, length, sym, ap, arith}
use Rattle.std.proofs.lemmas.Result.{IfOk-weaker}
use Rattle.exact_cross.specs.Points.{places}
use Rattle.key_points.specs.KeyPoints.{ys_of}
use Rattle.levels.specs.Indexes.{xs_at, ys_at}
use Rattle.levels.specs.Stored.{segments_of}
use Rattle.levels.proofs.LevelLemmas.{ys_at-base, ys_at-above, xs_at-length}
use Rattle.levels.proofs.LookupLemmas.{ascends}
use Rattle.levels.proofs.index.Index.ys.Goals as goal

pub returns-then-i-eq0 : goal.returns-then-i-eq0
returns-then-i-eq0 c =
    rw (c.if-i-eq0.true, ys_at-base, ← c.self.view_is)
    (c.in_ok-from_slice.ensures.items ∙ c.points-list.ensures.ys ∙ ap ys_of c.in_ok-points.ensures)

pub overflow_cast-firsts : goal.overflow_cast-firsts
overflow_cast-firsts c =
    let own = c.self.inside in
    let levels = segments_of own.stored.items in
    let first = c.self.invariant.stored.first in
    let inside : c.args.i < length levels = rw (← c.self.view_is) at c.requires in
    let here = ascends own.keys own.bounds.eps
    own.bounds.eps_rec levels first.never_falls c.self.invariant.stored.index c.args.i (omega (arith, inside)) in
    let is : c.firsts.result.now ≡ xs_at own.keys levels c.args.i = rw (← c.self.view_is) at c.firsts.ensures in
    omega (arith, ap length is, here.few, first.few)

pub returns : goal.returns
returns c =
    let value = c.args.self.now in
    let last : c.args.i - 1 + 1 ≡ c.args.i = omega (arith, c.if-i-eq0.false) in
    let above : places (length c.firsts.result.now) ≡ ys_at value.keys value.levels c.args.i =
    ap (λ (xs : List ℕ). places (length xs)) c.firsts.ensures
    ∙ ap (λ (k : ℕ). places (length (xs_at value.keys value.levels k))) (sym last)
    ∙ ap places (xs_at-length value.keys value.levels (c.args.i - 1))
    ∙ sym (ys_at-above value.keys value.levels (c.args.i - 1)) ∙ ap (ys_at value.keys value.levels) last in
    IfOk-weaker c.places_of.result _ _ (λ list is. is ∙ above) c.places_of.ensures
