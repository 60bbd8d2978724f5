-- Right of its point the line has climbed by the quotient; left of it, it has fallen by the quotient rounded up.
use Rattle.std.proofs.Common.{rules, ◌+◌, ◌-◌, ◌*◌, ◌/◌, ◌<◌, ◌^◌, refl, arith}
use Rattle.std.proofs.Math.Nat.{div-le_self}
use Rattle.std.proofs.lemmas.Int.{ints}
use Rattle.std.specs.Int.{w64}
use Rattle.std.specs.Int.RustNames.{FitsSigned}
use Rattle.exact_cross.proofs.FloorLemmas.{climb_below, IsFloorAt-right, IsFloorAt-left}
use Rattle.exact_cross.proofs.line.Line.floor_at.Goals as goal

pub returns-then-self-q : goal.returns-then-self-q
returns-then-self-q c =
    let line = c.args.self.now in
    let fits : FitsSigned w64 line.y0 = search rules in
    let climb = line.rise * (c.args.q - line.x0) in
    let small : climb < 2 ^ 97 = climb_below line.rise (c.args.q - line.x0) (omega arith) (omega arith) in
    let less = div-le_self climb line.run in
    record {
      exact = rw (c.from-rise.ensures, c.from.ensures, c.from-run.ensures, c.from-then-self-q.ensures)
          (IsFloorAt-right line c.args.q (c.args.q - line.x0)
          (climb / line.run) _ c.requires.in_range.positive (omega arith) refl (omega (arith, ints)));
    }

pub returns-else-self-q : goal.returns-else-self-q
returns-else-self-q c =
    let line = c.args.self.now in
    let fits : FitsSigned w64 line.y0 = search rules in
    let fall = line.rise * (line.x0 - c.args.q) in
    let small : fall < 2 ^ 97 = climb_below line.rise (line.x0 - c.args.q) (omega arith) (omega arith) in
    let less = div-le_self (fall + (line.run - 1)) line.run in
    record {
      exact =
          rw (c.from-rise.ensures, c.from-else-self-q.ensures, c.from-run.ensures, c.from-else-self-q-2.ensures)
          (IsFloorAt-left line c.args.q (line.x0 - c.args.q) ((fall + (line.run - 1)) / line.run)
          _ c.requires.in_range.positive (omega arith) refl (omega (arith, ints)));
    }
