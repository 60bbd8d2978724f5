-- All but the piece's last run are runs of all points, and so is the last one where the piece ends with them.
use Rattle.std.proofs.Common.{◌-◌, ℕ, length, subst, arith}
use Rattle.exact_cross.specs.PointLists.{points_in}
use Rattle.hulls.specs.Hulls.{bound_of}
use Rattle.exact_cross.specs.Covers.{IsLongest}
use Rattle.exact_cross.specs.Segments.{starts_of}
use Rattle.exact_cross.specs.Segmentation.{IsSegmentation}
use Rattle.exact_cross.proofs.CallerLemmas.{CutsInto-rises}
use Rattle.piece_join.proofs.Begun.{IsBegun-append, IsBegun-whole, rest_below, rest_begun, rest_rises, from_before}
use Rattle.piece_join.proofs.joining.take_rest.Goals as goal

pub returns-then-end-to-clause-begun : goal.returns-then-end-to-clause-begun
returns-then-end-to-clause-begun g c =
    let p = points_in c.args.points in
    let eps = bound_of c.args.hulls.now in
    let meets = c.requires.meets in
    rw c.in_ok-extend_from_slice.ensures.items
    (IsBegun-append p eps 0 c.args.to meets.0 c.args.to c.args.joined.now.items c.args.rest.now meets.1
    (IsBegun-whole p eps meets.0 c.args.to c.args.rest.now
    (subst (λ (n : ℕ). IsSegmentation p eps meets.0 n c.args.rest.now) c.if-end-to.true meets.2)))

pub add_run-requires-clause-at : goal.add_run-requires-clause-at
add_run-requires-clause-at g c =
    let meets = c.requires.meets in
    rest_below (points_in c.args.points) (bound_of c.args.hulls.now) meets.0 c.args.end c.args.to
    (length c.args.rest.now - 1) c.args.rest.now _ c.requires.end
    (omega arith) meets.2

pub add_run-requires-clause-begun : goal.add_run-requires-clause-begun
add_run-requires-clause-begun g c =
    let meets = c.requires.meets in
    rw c.in_ok-extend_from_slice-2.ensures.items
    (rest_begun (points_in c.args.points) (bound_of c.args.hulls.now) meets.0 c.args.end c.args.to
    (length c.args.rest.now - 1) c.args.joined.now.items c.args.rest.now _
    c.requires.end (omega arith) meets.1 meets.2)

pub returns-then-end-to-clause-cost : goal.returns-then-end-to-clause-cost
returns-then-end-to-clause-cost g c = λ at piece.
    let p = points_in c.args.points in
    omega (
      arith,
      c.if-end-to.true,
      CutsInto-rises
          (IsLongest p (bound_of c.args.hulls.now) c.args.end) (starts_of c.args.rest.now) at c.args.end piece.greedy,
    )

pub returns-clause-cost : goal.returns-clause-cost
returns-clause-cost g c =
    let p = points_in c.args.points in
    let eps = bound_of c.args.hulls.now in
    from_before (λ (at : ℕ). IsSegmentation p eps at c.args.end c.args.rest.now)
    c.add_run.result c.add_run.new.steps c.args.steps.now _ c.add_run.ensures.cost
    (λ at piece. rest_rises p eps at c.args.end c.args.to
    (length c.args.rest.now - 1) c.args.rest.now _ c.requires.end (omega arith) piece)
