use Rattle.std.proofs.Common.{◌≡◌, ◌+◌, ◌-◌, ◌/◌, ◌≤◌, length, slice_index, vec_len, vec_capacity}
use Rattle.sosd_reader.specs.NumberFiles.Kind.{of_keys}
use Rattle.sosd_reader.proofs.Pushing.{IsUnderWay}
use Rattle.sosd_reader.proofs.keys.push_keys.Given as goal

abbrev pub invariant-loop-i : goal.invariant-loop-i
invariant-loop-i g l = record {
  under_way : IsUnderWay (of_keys g.row.WIDTH) l.initial.keys.items l.bytes l.i l.keys.items;
  last : l.before ≡ slice_index l.keys.items (length l.keys.items - 1);
  len : vec_len l.keys ≡ vec_len l.initial.keys + l.i;
  room : vec_len l.initial.keys + length l.bytes / g.row.WIDTH ≤ vec_capacity l.keys;
}
