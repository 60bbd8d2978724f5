-- Quotients and remainders, each less than a step off.
use Rattle.std.proofs.Common.{◌≡◌, ◌+◌, ◌-◌, ◌*◌, ◌/◌, ◌%◌, ◌^◌, ◌<◌, ◌≤◌, ℕ, pos, ◌+ℤ◌, ◌∙◌, ap, subst, refl, arith}
use Rattle.std.proofs.lemmas.Int.{ints}
use Rattle.std.proofs.Math.Nat.{div-le_of_le-mul}
use Rattle.levels.proofs.ModelLemmas.{IsModelOf-in}
use Rattle.levels.proofs.model.RunModel.of.Goals as goal

pub overflow_cast-result : goal.overflow_cast-result
overflow_cast-result c =
    let n = c.from-3.result * c.from-run.result - c.from.result * c.from-2.result in
    let small : n / c.from-run.result ≤ c.from-3.result = div-le_of_le-mul c.from-run.result (omega arith) in
    omega (arith, small, c.from-3.ensures, c.raised_by-raised.type_inv)

pub returns : goal.returns
returns c =
    let line = c.args.line.now in
    let run = c.from-run.ensures in
    let n = c.from-3.result * c.from-run.result - c.from.result * c.from-2.result in
    let raises : pos c.from-3.result ≡ line.y0 +ℤ pos c.args.eps = omega (
      arith,
      ints,
      c.from-3.ensures,
      c.raised_by-raised.ensures,
      c.requires.in_range.not_below,
      c.requires.in_range.not_above,
    ) in
    let given = c.requires.not_below in
    let same : given.0 ≡ c.from-3.result = omega (arith, ints, given.1, raises) in
    let times_run : c.from-3.result * c.from-run.result
    ≡ c.from-3.result * line.run = ap (λ (r : ℕ). c.from-3.result * r) run in
    let fall : c.from.result * c.from-2.result ≡ line.rise * (line.x0 - c.args.first) =
    ap (λ (r : ℕ). r * c.from-2.result) c.from.ensures ∙ ap (λ (x : ℕ). line.rise * x) c.from-2.ensures in
    IsModelOf-in line c.args.first c.args.high c.args.eps c.from-3.result n _ (record {
      positive = omega (arith, c.requires.in_range.positive);
      left = c.requires.left;
      raises = raises;
      low = omega (arith, given.2, ap (λ (r : ℕ). r * line.run) same);
      height = omega (arith, times_run, fall);
      starts = refl;
      ends = omega (arith, c.from-4.ensures, c.from-5.ensures);
      whole = refl;
      base = ap (λ (r : ℕ). n / r) run;
      part_from = c.steps_of.ensures.not_above;
      part_to = c.steps_of.ensures.greatest;
      base_from = subst (λ (r : ℕ). c.steps_of-2.result * line.run ≤ n % r * 2 ^ 64) run c.steps_of-2.ensures.not_above;
      base_to = subst
          (λ (r : ℕ). n % r * 2 ^ 64 < c.steps_of-2.result * line.run + line.run) run c.steps_of-2.ensures.greatest;
    })
