-- Fewer than four bytes are the front of a number's.
use Rattle.std.proofs.Common.{◌∙◌, sym, arith}
use Rattle.edge.proofs.ReaderLemmas.{passed-on, same-piece}
use Rattle.index_file.specs.Spelling.{number}
use Rattle.index_file.specs.Stops.{IsNumber, IsNoCut, origin_of}
use Rattle.index_file.proofs.Runs.{ends-early, fronts-of_buffer, number-of_buffer, all-of}
use Rattle.index_file.proofs.reading.read_number.Goals as goal

pub returns-in_err-fill_all-clause-reading : goal.returns-in_err-fill_all-clause-reading
returns-in_err-fill_all-clause-reading g c =
    let fault = c.in_err-fill_all.field-0.0 in
    let buf = c.fill_all.new.bytes in
    passed-on g.F.Shelf origin_of _ _ _ _ _ _ fault c.from_residual.ensures.1
    (ends-early g.F.Shelf IsNumber IsNoCut IsNoCut c.args.at.now buf _ _ fault
    (fronts-of_buffer IsNumber buf (number-of_buffer buf (omega arith) c.in_err-fill_all.ensures.small))
    c.in_err-fill_all.ensures.reading)

pub returns-clause-reading : goal.returns-clause-reading
returns-clause-reading g c =
    let buf = c.fill_all.new.bytes in
    same-piece g.F.Shelf c.args.shelf.now c.fill_all.new.shelf buf (number c.number_at.result)
    (sym (c.number_at.ensures.bytes ∙ all-of buf 4 (omega arith))) c.in_ok-fill_all.ensures.reading
