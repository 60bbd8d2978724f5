-- What was found and what is left are all codes inside.
use Rattle.std.proofs.Common.{◌≡◌, ◌+◌, ◌-◌, ◌≤◌, length, drop}
use Rattle.boxes.specs.BoxAnswers.{codes_inside}
use Rattle.boxes.specs.Walks.{HasWalked}
use Rattle.boxes.proofs.boxes.Boxes.count.Given as goal

abbrev pub invariant-loop-walk : goal.invariant-loop-walk
invariant-loop-walk l = record {
  walked : HasWalked l.corners.region l.self.codes l.walk.at l.walk.looked;
  few : l.found ≤ l.walk.at;
  all : l.found + length (codes_inside l.corners.region (drop l.walk.at l.self.codes))
      ≡ length (codes_inside l.corners.region l.self.codes);
}

abbrev pub decreases-loop-walk : goal.decreases-loop-walk
decreases-loop-walk l = length l.self.codes - l.walk.at
