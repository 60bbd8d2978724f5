use Rattle.std.proofs.Common.{◌∷◌, length, decimal, ap, arith, length-append}
use Rattle.written.proofs.DigitLemmas.{length-decimal-64}
use Rattle.written.proofs.text_line.TextLine.push_u64.Goals as goal

pub push_digits-requires : goal.push_digits-requires
push_digits-requires c = omega (arith, length-decimal-64 c.args.number (omega arith))

pub returns-clause-room : goal.returns-clause-room
returns-clause-room c =
    let number = c.args.number in
    omega (
      arith,
      length-decimal-64 number (omega arith),
      ap length c.push_digits.ensures,
      length-append c.args.self.now (32 ∷ decimal number),
    )
