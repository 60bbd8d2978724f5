use Rattle.std.proofs.Common.{◌≡◌, ◌+◌, ◌/◌, ◌≤◌, length, vec_len, vec_capacity}
use Rattle.sosd_reader.specs.NumberFiles.Kind.{of_points}
use Rattle.sosd_reader.proofs.Pushing.{IsUnderWay}
use Rattle.sosd_reader.proofs.points.push_coords.Given as goal

abbrev pub invariant-loop-i : goal.invariant-loop-i
invariant-loop-i l = record {
  under_way : IsUnderWay (of_points l.d) l.initial.coords.items l.bytes l.i l.coords.items;
  len : vec_len l.coords ≡ vec_len l.initial.coords + l.i;
  room : vec_len l.initial.coords + length l.bytes / 4 ≤ vec_capacity l.coords;
}
