-- What was filled in and what is left are all codes inside.
use Rattle.std.proofs.Common.{◌≡◌, ◌≤◌, ◌-◌, ◌++◌, length, drop, vec_capacity}
use Rattle.boxes.specs.BoxAnswers.{codes_inside}
use Rattle.boxes.specs.Walks.{HasWalked}
use Rattle.boxes.proofs.boxes.Boxes.fill.Given as goal

abbrev pub invariant-loop-walk : goal.invariant-loop-walk
invariant-loop-walk l = record {
  walked : HasWalked l.corners.region l.self.codes l.walk.at l.walk.looked;
  all : l.into.items
      ++ codes_inside l.corners.region (drop l.walk.at l.self.codes) ≡ codes_inside l.corners.region l.self.codes;
  room : vec_capacity l.fn.into ≤ vec_capacity l.into;
}

abbrev pub decreases-loop-walk : goal.decreases-loop-walk
decreases-loop-walk l = length l.self.codes - l.walk.at
