use Rattle.std.proofs.Common.{◌≡◌, ℕ, ◌+◌, ◌-◌, ◌^◌, ◌<◌, ◌≤◌, length, slice_index}
use Rattle.kuldebiq.proofs.past_many.next_numbers.Given as goal

-- the numbers after the questions before `lane`
abbrev pub invariant-loop-lane : goal.invariant-loop-lane
invariant-loop-lane l = record {
  long : length l.next ≡ 64;
  numbers : (k : ℕ) → l.first ≤ k → k < l.lane → slice_index l.questions k + 1 < 2 ^ 64 →
      slice_index l.next (k - l.first) ≡ slice_index l.questions k + 1;
}
