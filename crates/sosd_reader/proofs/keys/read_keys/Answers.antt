use Rattle.std.proofs.lemmas.Result.{err_from_is_err_and}
use Rattle.sosd_reader.specs.NumberFiles.Kind.{of_keys}
use Rattle.sosd_reader.specs.KeyFiles.{key_width}
use Rattle.sosd_reader.proofs.KindLemmas.{never-falls-from}
use Rattle.sosd_reader.proofs.Wherever.{read-wherever, fault-wherever}
use Rattle.sosd_reader.proofs.keys.read_keys.Goals as goal

pub returns-clause-wherever : goal.returns-clause-wherever
returns-clause-wherever g c =
    read-wherever
    (of_keys (key_width c.args.wide)) (g.F.Shelf.rest c.args.shelf.now) _ (g.F.Shelf.faults c.args.shelf.now)
    (g.F.Shelf.faults c.read_file.new.shelf) c.in_ok-read_file.ensures.reading.read.file

pub returns-clause-never_falls : goal.returns-clause-never_falls
returns-clause-never_falls g c =
    never-falls-from (key_width c.args.wide) _ c.in_ok-read_file.ensures.numbers.1.all_follow

pub returns-in_err-read_file-clause-wherever : goal.returns-in_err-read_file-clause-wherever
returns-in_err-read_file-clause-wherever g c =
    let p = err_from_is_err_and c.from_residual.result c.from_residual.ensures.1 in
    rw (p.1, p.2) (fault-wherever (of_keys (key_width c.args.wide))
    (g.F.Shelf.rest c.args.shelf.now) _ (g.F.Shelf.faults c.args.shelf.now) (g.F.Shelf.faults c.read_file.new.shelf)
    c.in_err-read_file.ensures.reading.fault c.in_err-read_file.ensures.reading.cause)
