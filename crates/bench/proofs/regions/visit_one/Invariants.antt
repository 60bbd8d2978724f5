-- How far the walk has come.
use Rattle.std.proofs.Common.{◌-◌, length}
use Rattle.boxes.specs.Walks.{HasWalked}
use Rattle.bench.proofs.regions.visit_one.Given as goal

abbrev pub invariant-loop-walk : goal.invariant-loop-walk
invariant-loop-walk l = HasWalked l.corners.region l.boxes.codes l.walk.at l.walk.looked

abbrev pub decreases-loop-walk : goal.decreases-loop-walk
decreases-loop-walk l = length l.boxes.codes - l.walk.at
