-- No step so far has more.
use Rattle.std.proofs.Common.{◌+◌, ◌-◌, ◌<◌, ◌≤◌, ℕ, slice_index}
use Rattle.radix_table.proofs.entries.fullest.Given as goal

abbrev pub invariant-loop-place : goal.invariant-loop-place
invariant-loop-place l = (h : ℕ) → h + 1 < l.place → slice_index l.entries (h + 1) - slice_index l.entries h ≤ l.most
