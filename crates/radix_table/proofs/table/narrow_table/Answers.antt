-- The empty table is one of any numbers.
use Rattle.radix_table.proofs.table.narrow_table.Goals as goal

pub returns-then-from-most : goal.returns-then-from-most
returns-then-from-most c = λ xs is. c.empty.ensures xs c.args.most
