-- The empty table is one of any numbers.
use Rattle.radix_table.proofs.table.RadixTable.over.Goals as goal

pub returns-then-is_empty : goal.returns-then-is_empty
returns-then-is_empty c = record { table = c.empty.ensures c.args.xs.now c.args.most }
