use Rattle.std.proofs.Common.{sym, arith, rules}
use Rattle.written.proofs.DigitLemmas.{length-decimal, length-decimal-one}
use Rattle.written.proofs.text_line.digit_count.Goals as goal

pub returns-then-number-lt10 : goal.returns-then-number-lt10
returns-then-number-lt10 c = search (rules, length-decimal-one)

pub returns : goal.returns
returns c =
    sym (length-decimal c.ilog10.result c.args.number c.ilog10.ensures.power_le c.ilog10.ensures.next_power_gt
    (omega arith))
