-- The hulls stand for the points so far.
use Rattle.std.proofs.Common.{◌≤◌}
use Rattle.exact_cross.specs.PointLists.{points_in}
use Rattle.hulls.specs.Hulls.{room_of, StandsFor}
use Rattle.index_tests.proofs.readme_examples.hulls_example.Given as goal

abbrev pub invariant-loop-place : goal.invariant-loop-place
invariant-loop-place g l = record {
  stands : StandsFor l.hulls (points_in l.points) 0 0 l.place;
  room : 4 ≤ room_of l.hulls;
}
