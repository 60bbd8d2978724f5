-- The segmentation of the points is level 0.
use Rattle.std.proofs.Common.{◌≡◌, ◌+◌, ◌*◌, ◌≤◌, ℕ, List, length, vec_len, refl, sym, ap, subst, arith}
use Rattle.std.proofs.lemmas.Result.{IfOk-weaker}
use Rattle.exact_cross.specs.Points.{points_of}
use Rattle.key_points.specs.KeyPoints.{xs_of, ys_of}
use Rattle.piece_join.proofs.RelaxedLemmas.{IsLaid-from_piece}
use Rattle.levels.specs.Indexes.{PgmIndex, IsIndex, IsIndexOf, places_below}
use Rattle.levels.specs.Stored.{segments_of}
use Rattle.levels.proofs.LevelLemmas.{IsIndex-over}
use Rattle.levels.proofs.StoredLemmas.{segments_of-count}
use Rattle.levels.proofs.index.Index.build_here.Goals as goal

pub levels_over-requires : goal.levels_over-requires
levels_over-requires g c =
    let keys = c.in_ok-points.points in
    record {
      segments = IsLaid-from_piece (points_of (xs_of keys) (ys_of keys)) c.args.bounds.eps 0
          (length (xs_of keys)) c.in_ok-segments.segments.items (omega arith)
          (rw (c.points-list.ensures.xs, c.points-list.ensures.ys) at c.in_ok-segments.ensures.least.segmentation);
    }

pub from_levels-requires : goal.from_levels-requires
from_levels-requires g c = rw (← c.in_ok-points.ensures) c.in_ok-stored.ensures.stored

pub returns-clause-index : goal.returns-clause-index
returns-clause-index g c =
    let own = c.in_ok-stored.ensures in
    let stored = c.in_ok-stored.stored in
    let index = IsIndex-over c.in_ok-points.points c.args.bounds.eps c.args.bounds.eps_rec
    (segments_of stored.items) c.in_ok-segments.segments.items own.stored.index
    (λ some. own.base (omega (arith, segments_of-count stored.items, stored.ok.0, some)))
    (rw (c.points-list.ensures.xs, c.points-list.ensures.ys) at c.in_ok-segments.ensures.least.segmentation) in
    let levels = subst (λ (k : List ℕ). IsIndex k c.args.bounds.eps c.args.bounds.eps_rec (segments_of stored.items))
    c.in_ok-points.ensures index in
    IfOk-weaker c.from_levels.result _ _
    (λ built is. subst (λ (i : PgmIndex). IsIndexOf c.args.keys c.args.bounds.eps c.args.bounds.eps_rec i)
    (sym is) (record { of_keys = refl; of_eps = refl; of_eps_rec = refl; levels = levels }))
    c.from_levels.ensures

pub returns-clause-cost : goal.returns-clause-cost
returns-clause-cost g c =
    let keys = c.in_ok-points.points in
    let stored = c.in_ok-stored.stored in
    let levels = segments_of stored.items in
    let count : vec_len stored ≡ length levels = omega (arith, segments_of-count stored.items, stored.ok.0) in
    let cost : c.levels_over.new.steps ≤ c.args.steps.now + 12 * places_below keys levels (length levels) =
    omega (
      arith,
      c.in_ok-stored.ensures.cost,
      c.in_ok-segments.ensures.cost,
      ap length c.points-list.ensures.xs,
      ap (places_below keys levels) count,
    ) in
    IfOk-weaker c.from_levels.result _ _
    (λ built is. subst
    (λ (i : PgmIndex).
    c.levels_over.new.steps ≤ c.args.steps.now + 12 * places_below c.args.keys i.levels (length i.levels)) (sym is)
    (subst (λ (k : List ℕ). c.levels_over.new.steps ≤ c.args.steps.now + 12 * places_below k levels (length levels))
    c.in_ok-points.ensures cost))
    c.from_levels.ensures
