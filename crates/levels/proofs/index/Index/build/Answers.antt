-- The segmentation of the points is level 0.
use Rattle.std.proofs.Common.{ℕ, List, length, refl, sym, subst, arith}
use Rattle.std.proofs.lemmas.Result.{IfOk-weaker}
use Rattle.exact_cross.specs.Points.{points_of}
use Rattle.key_points.specs.KeyPoints.{xs_of, ys_of}
use Rattle.piece_join.proofs.RelaxedLemmas.{IsLaid-from_piece}
use Rattle.levels.specs.Indexes.{PgmIndex, IsIndex, IsIndexOf}
use Rattle.levels.specs.Stored.{segments_of}
use Rattle.levels.proofs.LevelLemmas.{IsIndex-over}
use Rattle.levels.proofs.StoredLemmas.{segments_of-count}
use Rattle.levels.proofs.index.Index.build.Goals as goal

pub levels_from-requires-clause-segments : goal.levels_from-requires-clause-segments
levels_from-requires-clause-segments g c =
    let keys = c.in_ok-points.points in
    IsLaid-from_piece (points_of (xs_of keys) (ys_of keys)) c.args.bounds.eps 0
    (length (xs_of keys)) c.in_ok-segments.segments.items (omega arith)
    (rw (c.points-list.ensures.xs, c.points-list.ensures.ys) at c.in_ok-segments.ensures.segmentation)

pub from_levels-requires : goal.from_levels-requires
from_levels-requires g c = rw (← c.in_ok-points.ensures) c.in_ok-stored.ensures.stored

pub returns : goal.returns
returns g c =
    let own = c.in_ok-stored.ensures in
    let stored = c.in_ok-stored.stored in
    let index = IsIndex-over c.in_ok-points.points c.args.bounds.eps c.args.bounds.eps_rec
    (segments_of stored.items) c.in_ok-segments.segments.items own.stored.index
    (λ some. own.base (omega (arith, segments_of-count stored.items, stored.ok.0, some)))
    (rw (c.points-list.ensures.xs, c.points-list.ensures.ys) at c.in_ok-segments.ensures.segmentation) in
    let levels = subst (λ (k : List ℕ). IsIndex k c.args.bounds.eps c.args.bounds.eps_rec (segments_of stored.items))
    c.in_ok-points.ensures index in
    record {
      index = IfOk-weaker c.from_levels.result _ _
          (λ built is. subst (λ (i : PgmIndex). IsIndexOf c.args.keys c.args.bounds.eps c.args.bounds.eps_rec i)
          (sym is) (record { of_keys = refl; of_eps = refl; of_eps_rec = refl; levels = levels }))
          c.from_levels.ensures;
    }
