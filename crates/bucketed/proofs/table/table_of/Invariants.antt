-- The entries of the buckets of the runs so far.
use Rattle.levels.specs.Indexes.{xs_at}
use Rattle.bucketed.proofs.TableLemmas.{IsFilledUpTo}
use Rattle.bucketed.proofs.table.table_of.Given as goal

abbrev pub invariant-loop-run : goal.invariant-loop-run
invariant-loop-run l = IsFilledUpTo l.bits (xs_at l.index.keys l.index.levels 1) l.run l.table.items
