-- What was counted and what is left are all codes inside, where they never fall.
use Rattle.std.proofs.Common.{◌≡◌, ◌+◌, ◌-◌, ◌≤◌, length, drop}
use Rattle.std.specs.List.Sorted.{IsNonDecreasing}
use Rattle.boxes.specs.BoxAnswers.{codes_inside}
use Rattle.boxes.proofs.places.count_places.Given as goal

abbrev pub invariant-loop-at : goal.invariant-loop-at
invariant-loop-at l = record {
  within : l.at ≤ length l.codes;
  few : l.count ≤ l.at;
  all : IsNonDecreasing l.codes
      → l.count + length (codes_inside l.corners.region (drop l.at l.codes))
      ≡ length (codes_inside l.corners.region l.codes);
}

abbrev pub decreases-loop-at : goal.decreases-loop-at
decreases-loop-at l = length l.codes - l.at
