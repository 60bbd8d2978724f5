-- The entries so far.
use Rattle.std.proofs.Common.{◌≡◌, ◌<◌, ◌≤◌, ℕ, length, slice_index}
use Rattle.std.specs.Prelude.{vec_len}
use Rattle.radix_table.proofs.entries.fill_to.Given as goal

abbrev pub invariant-loop-entry : goal.invariant-loop-entry
invariant-loop-entry l = record {
  stays : l.to ≤ vec_len l.fn.entries → l._entry ≡ vec_len l.fn.entries;
  count : vec_len l.entries ≡ l._entry;
  before : (k : ℕ) → k < length l.fn.entries.items → slice_index l.entries.items k ≡ slice_index l.fn.entries.items k;
  added : (k : ℕ) → length l.fn.entries.items ≤ k → k < l._entry → slice_index l.entries.items k ≡ l.number;
}
