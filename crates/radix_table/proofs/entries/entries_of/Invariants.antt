-- The entries of the steps of the numbers so far.
use Rattle.radix_table.specs.Tables.{step_of}
use Rattle.radix_table.proofs.CountLemmas.{IsFilled}
use Rattle.radix_table.proofs.entries.entries_of.Given as goal

abbrev pub invariant-loop-place : goal.invariant-loop-place
invariant-loop-place l = IsFilled (step_of l.scale) l.xs l.place l.entries.items
