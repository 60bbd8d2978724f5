-- All lines begin at or before the greatest number.
use Rattle.std.proofs.Common.{◌-◌, ◌*◌, ◌/◌, length, arith}
use Rattle.hints.proofs.LineLemmas.{length-first_xs, first_xs-at}
use Rattle.hints.proofs.line_list.lines_begun.Goals as goal

pub returns-then-q-eq18446744073709551615 : goal.returns-then-q-eq18446744073709551615
returns-then-q-eq18446744073709551615 g c =
    let lines = c.args.lines.now in
    let count = length-first_xs lines in
    record {
      within = omega (arith, count);
      before = λ some. omega (
        arith,
        first_xs-at lines (length lines / 3 - 1) (omega arith),
        c.type_inv.lines (3 * (length lines / 3 - 1)),
      );
      at = λ less. absurd (omega (arith, count, less));
    }
