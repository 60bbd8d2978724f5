-- each reader that is left is of the map
use Rattle.std.proofs.Common.{◌≡◌, All, vec_len}
use Rattle.map_tests.proofs.batches_rows.all_informed.Given as goal

abbrev pub invariant-loop-reader : goal.invariant-loop-reader
invariant-loop-reader g l = record {
  own : All (λ reader. reader.origin ≡ g.M.MapName.origin) l.readers.items;
}

abbrev pub decreases-loop-reader : goal.decreases-loop-reader
decreases-loop-reader g l = vec_len l.readers
