use Rattle.std.proofs.Common.{◌∷◌, ◌≡◌, ◌+◌, length, decimal, ap, arith, length-append}
use Rattle.written.proofs.DigitLemmas.{length-decimal-32}
use Rattle.written.proofs.text_line.TextLine.push_places.Goals as goal

pub push_digits-requires : goal.push_digits-requires
push_digits-requires c =
    omega (
      arith,
      length-decimal-32 c.from.result (omega arith),
      ap length c.push.ensures,
      length-append c.args.self.now c.args.label.now,
    )

pub push_digits-requires-2 : goal.push_digits-requires-2
push_digits-requires-2 c =
    let after : length c.push_digits.new.self ≡ length c.push.new.self + (1 + length (decimal c.from.result)) =
    omega (arith, ap length c.push_digits.ensures, length-append c.push.new.self (32 ∷ decimal c.from.result)) in
    omega (
      arith,
      length-decimal-32 c.from.result (omega arith),
      length-decimal-32 c.from-2.result (omega arith),
      ap length c.push.ensures,
      length-append c.args.self.now c.args.label.now,
    )

pub returns-clause-room : goal.returns-clause-room
returns-clause-room c =
    let first : length c.push_digits.new.self ≡ length c.push.new.self + (1 + length (decimal c.from.result)) =
    omega (arith, ap length c.push_digits.ensures, length-append c.push.new.self (32 ∷ decimal c.from.result)) in
    let second : length c.push_digits-2.new.self
    ≡ length c.push_digits.new.self + (1 + length (decimal c.from-2.result)) =
    omega (
      arith,
      ap length c.push_digits-2.ensures,
      length-append c.push_digits.new.self (32 ∷ decimal c.from-2.result),
    ) in
    omega (
      arith,
      length-decimal-32 c.from.result (omega arith),
      length-decimal-32 c.from-2.result (omega arith),
      ap length c.push.ensures,
      length-append c.args.self.now c.args.label.now,
    )
