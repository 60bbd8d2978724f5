-- The first point is a run.
use Rattle.std.proofs.Common.{ap, length, refl, arith}
use Rattle.exact_cross.specs.PointLists.{points_in}
use Rattle.exact_cross.proofs.CallerLemmas.{IsAscending-points_in}
use Rattle.index_tests.proofs.readme_examples.hulls_example.Goals as goal

pub loop-place-init : goal.loop-place-init
loop-place-init g c = record {
  stands = rw c.in_ok-hulls.ensures.bound at
      (c.start.ensures.stands (points_in c.new-points.result)
      (IsAscending-points_in c.new-points.result) (omega (arith, ap length c.new-points.ensures.ys)) refl refl);
  room = omega (arith, c.in_ok-hulls.ensures.room, c.start.ensures.room);
}
