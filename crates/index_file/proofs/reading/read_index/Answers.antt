-- The answer is the one reading of the bytes.
use Rattle.index_file.proofs.Wherever.{read-wherever, fault-wherever}
use Rattle.index_file.proofs.reading.read_index.Goals as goal

pub returns-in-Ok-clause-wherever : goal.returns-in-Ok-clause-wherever
returns-in-Ok-clause-wherever g c = read-wherever _ _
    (g.F.Shelf.faults c.args.shelf.now) (g.F.Shelf.faults c.read_file.new.shelf) c.in-Ok.ensures.reading.read.saved

pub returns-in-Err-clause-wherever : goal.returns-in-Err-clause-wherever
returns-in-Err-clause-wherever g c =
    fault-wherever _ _ _ _ c.in-Err.ensures.reading.fault c.in-Err.ensures.reading.cause
