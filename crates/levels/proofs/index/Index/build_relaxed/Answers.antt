-- The pieces side by side are level 0.
use Rattle.std.proofs.Common.{◌<◌, ℕ, List, length, refl, sym, ◌∙◌, ap, subst, arith}
use Rattle.std.proofs.lemmas.Result.{IfOk-weaker}
use Rattle.exact_cross.specs.Points.{points_of}
use Rattle.exact_cross.specs.Checked.{uncut}
use Rattle.exact_cross.specs.IndexLevels.{level_at}
use Rattle.key_points.specs.KeyPoints.{xs_of, ys_of}
use Rattle.key_points.proofs.CallerLemmas.{xs-first}
use Rattle.piece_join.proofs.RelaxedLemmas.{IsLaid-from_cuts}
use Rattle.levels.specs.Indexes.{PgmIndex, IsRelaxedIndex, IsRelaxedIndexOf}
use Rattle.levels.specs.Stored.{segments_of}
use Rattle.levels.proofs.IndexLemmas.{relaxed-within}
use Rattle.levels.proofs.LevelLemmas.{IsRelaxedIndex-over}
use Rattle.levels.proofs.StoredLemmas.{segments_of-count}
use Rattle.levels.proofs.index.Index.build_relaxed.Goals as goal

pub levels_from-requires-clause-segments : goal.levels_from-requires-clause-segments
levels_from-requires-clause-segments g c =
    let keys = c.in_ok-points.points in
    IsLaid-from_cuts (points_of (xs_of keys) (ys_of keys)) c.args.bounds.eps
    c.args.cuts.now c.in_ok-segments.segments.items (rw c.in_ok-points.ensures c.requires.cuts.are)
    (rw (c.points-list.ensures.xs, c.points-list.ensures.ys) at c.in_ok-segments.ensures.relaxed)

pub from_levels-requires : goal.from_levels-requires
from_levels-requires g c = rw (← c.in_ok-points.ensures) c.in_ok-stored.ensures.stored

pub returns-clause-relaxed : goal.returns-clause-relaxed
returns-clause-relaxed g c =
    let own = c.in_ok-stored.ensures in
    let stored = c.in_ok-stored.stored in
    let index = IsRelaxedIndex-over c.in_ok-points.points c.args.bounds.eps c.args.bounds.eps_rec c.args.cuts.now
    (segments_of stored.items) c.in_ok-segments.segments.items own.stored.index
    (λ some. own.base (omega (arith, segments_of-count stored.items, stored.ok.0, some)))
    (rw (c.points-list.ensures.xs, c.points-list.ensures.ys) at c.in_ok-segments.ensures.relaxed) in
    let levels = subst
    (λ (k : List ℕ).
    IsRelaxedIndex k c.args.bounds.eps c.args.bounds.eps_rec c.args.cuts.now (segments_of stored.items))
    c.in_ok-points.ensures index in
    IfOk-weaker c.from_levels.result _ _
    (λ built is.
    subst (λ (i : PgmIndex). IsRelaxedIndexOf c.args.keys c.args.bounds.eps c.args.bounds.eps_rec c.args.cuts.now i)
    (sym is) (record { of_keys = refl; of_eps = refl; of_eps_rec = refl; levels = levels }))
    c.from_levels.ensures

pub returns-clause-slack : goal.returns-clause-slack
returns-clause-slack g c =
    let own = c.in_ok-stored.ensures in
    let stored = c.in_ok-stored.stored in
    IfOk-weaker c.from_levels.result _ _
    (λ built is some. let some : 0 < length c.in_ok-points.points = rw c.in_ok-points.ensures some in
    ap (λ (i : PgmIndex). uncut (level_at i.levels 0)) is
    ∙ ap uncut (own.base (omega (arith, segments_of-count stored.items, stored.ok.0, own.stored.index.some some)))
    ∙ (rw c.points-list.ensures.xs at c.in_ok-segments.ensures.slack) (xs-first c.in_ok-points.points some).0)
    c.from_levels.ensures

pub returns-clause-within : goal.returns-clause-within
returns-clause-within g c =
    let keys = c.args.keys in
    let own = c.in_ok-stored.ensures in
    let stored = c.in_ok-stored.stored in
    let index = IsRelaxedIndex-over c.in_ok-points.points c.args.bounds.eps c.args.bounds.eps_rec c.args.cuts.now
    (segments_of stored.items) c.in_ok-segments.segments.items own.stored.index
    (λ some. own.base (omega (arith, segments_of-count stored.items, stored.ok.0, some)))
    (rw (c.points-list.ensures.xs, c.points-list.ensures.ys) at c.in_ok-segments.ensures.relaxed) in
    IfOk-weaker c.from_levels.result _ _ (λ built is some.
    let whole =
    subst (λ (i : PgmIndex). IsRelaxedIndex keys c.args.bounds.eps c.args.bounds.eps_rec c.args.cuts.now i.levels)
    (sym is)
    (subst (λ (k : List ℕ).
    IsRelaxedIndex k c.args.bounds.eps c.args.bounds.eps_rec c.args.cuts.now (segments_of stored.items))
    c.in_ok-points.ensures index) in
    let first = rw c.in_ok-points.ensures at own.stored.first in
    relaxed-within keys c.args.bounds.eps c.args.bounds.eps_rec c.args.cuts.now built.levels
    first.never_falls first.few c.args.bounds.bounded c.args.bounds.bounded_above c.requires.cuts.are whole some)
    c.from_levels.ensures
