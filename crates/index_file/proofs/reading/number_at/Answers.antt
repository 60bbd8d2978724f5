-- Four bytes of a list are those of the number that they say.
use Rattle.std.proofs.Common.{◌+◌, ◌∙◌, refl, get_or, arith}
use Rattle.index_file.proofs.Numbers.{number-of, four-of, four-small}
use Rattle.index_file.proofs.reading.number_at.Goals as goal

pub returns : goal.returns
returns c =
    let xs = c.args.bytes.now in
    let i = c.args.i in
    record {
      bytes = number-of _ c.from_le_bytes.result refl
          (four-small (get_or xs i 0)
          (get_or xs (i + 1) 0) (get_or xs (i + 2) 0) (get_or xs (i + 3) 0) (c.type_inv.bytes i).fits
          (c.type_inv.bytes (i + 1)).fits (c.type_inv.bytes (i + 2)).fits (c.type_inv.bytes (i + 3)).fits)
          c.from_le_bytes.ensures
          ∙ four-of xs i (i + 1) (i + 2) (i + 3) (omega arith) (omega arith) (omega arith) (omega arith);
    }
