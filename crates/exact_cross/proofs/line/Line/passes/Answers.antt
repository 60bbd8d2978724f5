-- The two comparisons are those of the raised heights.
use Rattle.std.proofs.Common.{Fits, ℕ, ◌+◌, ◌*◌, ◌^◌, ◌<◌, ◌≤◌, pos, ◌+ℤ◌, rules, arith}
use Rattle.std.proofs.Math.Nat.{mul-le-mul}
use Rattle.std.specs.Int.{w64, w128, cast_signed, cast_unsigned}
use Rattle.std.specs.Int.RustNames.{FitsSigned, unsigned_abs}
use Rattle.std.proofs.lemmas.Int.{ints}
use Rattle.exact_cross.specs.declared.line.Line.{Line}
use Rattle.exact_cross.specs.PointLists.{points_in}
use Rattle.exact_cross.specs.Checked.{IsInRange}
use Rattle.exact_cross.proofs.LinePasses.{IsRaised, decided-by_first, decided-by_second}
use Rattle.exact_cross.proofs.line.Line.passes.Goals as goal

-- the cast loses nothing
raised : (line : Line) → IsInRange line → FitsSigned w64 line.y0 →
    IsRaised line (unsigned_abs
    (cast_signed w64 (cast_unsigned w64 (cast_signed w64 (cast_unsigned w64 line.y0) +ℤ pos 1048576))))
raised line in_range fits =
    record { raised = omega (arith, ints, in_range.not_below, in_range.not_above) }

-- the line's height, raised and times the run, and the slack fit 128 bits
height_fits : (rise x lift run eps : ℕ) → rise < 2 ^ 33 →
    x < 2 ^ 64 → lift < 2 ^ 33 → run < 2 ^ 64 → eps ≤ 1048576 → Fits w128 (rise * x + lift * run + eps * run)
height_fits rise x lift run eps steep right high wide bounded =
    let small : rise * x + lift * run + eps * run < 2 ^ 128 = omega (
      arith,
      mul-le-mul {n₁ = rise} {m₁ = x} {n₂ = 2 ^ 33} {m₂ = 2 ^ 64} (omega arith) (omega arith),
      mul-le-mul {n₁ = lift} {m₁ = run} {n₂ = 2 ^ 33} {m₂ = 2 ^ 64} (omega arith) (omega arith),
      mul-le-mul {n₁ = eps} {m₁ = run} {n₂ = 1048576} {m₂ = 2 ^ 64} bounded (omega arith),
    ) in
    search rules

lift_small : (line : Line) → IsInRange line → FitsSigned w64 line.y0 →
    unsigned_abs (cast_signed w64 (cast_unsigned w64 (cast_signed w64 (cast_unsigned w64 line.y0) +ℤ pos 1048576)))
    < 2 ^ 33
lift_small line in_range fits = omega (arith, ints, in_range.not_below, in_range.not_above)

pub overflow_add-result : goal.overflow_add-result
overflow_add-result c =
    let line = c.args.self.now in
    let fits : FitsSigned w64 line.y0 = search rules in
    rw (c.from-rise.ensures, c.from-run.ensures, c.from-x.ensures, c.from-2.ensures)
    (height_fits line.rise _ _ line.run c.args.eps (omega (arith, c.requires.in_range.not_too_steep))
    (omega arith) (lift_small line c.requires.in_range fits) (omega arith) c.requires.bounded)

pub returns-then-line-point : goal.returns-then-line-point
returns-then-line-point c =
    let line = c.args.self.now in
    let p = points_in c.args.points in
    let fits : FitsSigned w64 line.y0 = search rules in
    let first = rw
    (c.from-rise.ensures, c.from-run.ensures, c.from-x.ensures, c.from-y.ensures, c.from.ensures, c.from-2.ensures)
    at c.if-line-point.true in
    record {
      exact = rw (
        c.from-rise.ensures,
        c.from-run.ensures,
        c.from-x.ensures,
        c.from-y.ensures,
        c.from.ensures,
        c.from-2.ensures,
      )
          (decided-by_second p c.args.eps line _ c.args.place c.requires.in_range.positive
          (raised line c.requires.in_range fits) first);
    }

pub returns-else-line-point : goal.returns-else-line-point
returns-else-line-point c =
    let line = c.args.self.now in
    let p = points_in c.args.points in
    let fits : FitsSigned w64 line.y0 = search rules in
    let first = rw
    (c.from-rise.ensures, c.from-run.ensures, c.from-x.ensures, c.from-y.ensures, c.from.ensures, c.from-2.ensures)
    at c.if-line-point.false in
    record {
      exact = rw (
        c.from-rise.ensures,
        c.from-run.ensures,
        c.from-x.ensures,
        c.from-y.ensures,
        c.from.ensures,
        c.from-2.ensures,
      )
          (decided-by_first p c.args.eps line _ c.args.place (raised line c.requires.in_range fits) first);
    }
