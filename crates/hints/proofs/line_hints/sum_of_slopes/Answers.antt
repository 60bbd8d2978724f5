-- A flat slope that falls, rounded up, is its fall rounded down; and it is no more than the steep one.
use Rattle.std.proofs.Common.{◌≡◌, ◌+◌, ◌*◌, ◌<◌, ◌≤◌, ◌^◌, ℕ, ℤ, pos, ◌-ℤ◌, ap, arith}
use Rattle.std.proofs.lemmas.Int.{ints}
use Rattle.std.proofs.Math.Nat.{mul-le-mul_right, le_of_mul-le-mul_right}
use borrow.Author.Differences.{up, down}
use Rattle.exact_cross.specs.declared.line.Line.{Line}
use Rattle.hulls.specs.declared.flat.FlatLine.{FlatLine}
use Rattle.hulls.specs.FlatLines.{MeanRises}
use Rattle.hints.specs.Made.{IsRoundedUp}
use Rattle.hints.proofs.RoundedLemmas.{own_abs, falls_parts, rises_parts}
use Rattle.hints.proofs.MiddleLemmas.{times}
use Rattle.hints.proofs.line_hints.sum_of_slopes.Goals as goal

-- the flat slope falls no more than the steep one rises
falls_less : (line : Line) (flat : FlatLine) (T fall more less : ℕ) → 0 < line.run → 0 < flat.run →
    MeanRises line flat → up flat.rise ≡ 0 → down flat.rise ≡ fall →
    line.rise * T ≤ more * line.run → less * flat.run ≤ fall * T → less ≤ more
falls_less line flat T fall more less positive flat_positive mean none falls steep level =
    let product = times flat.rise line.run in
    let nothing = ap (λ (t : ℕ). t * line.run) none in
    let scaled = ap (λ (t : ℕ). t * line.run) falls in
    let balance : fall * line.run ≤ line.rise * flat.run = omega (arith, ints, mean.rises, product, nothing, scaled) in
    le_of_mul-le-mul_right {k = line.run} (le_of_mul-le-mul_right {k = flat.run}
    (omega (arith, mul-le-mul_right T balance, mul-le-mul_right flat.run steep, mul-le-mul_right line.run level))
    flat_positive) positive

rounded_falling : (rise : ℤ) (run T fall less : ℕ) → up rise ≡ 0 → down rise ≡ fall → less * run ≤ fall * T →
    fall * T < less * run + run → IsRoundedUp rise run T (pos 0 -ℤ pos less)
rounded_falling rise run T fall less none falls low high =
    let own = times rise T in
    let back = times (pos 0 -ℤ pos less) run in
    let minus : up (pos 0 -ℤ pos less) + less ≡ down (pos 0 -ℤ pos less) = omega (arith, ints) in
    let minus_run = ap (λ (t : ℕ). t * run) minus in
    let nothing = ap (λ (t : ℕ). t * T) none in
    let scaled = ap (λ (t : ℕ). t * T) falls in
    record {
      not_below = omega (arith, ints, own, back, minus_run, nothing, scaled, low);
      least = omega
          (arith, ints, own, back, minus_run, nothing, scaled, high);
    }

rounded_rising : (rise : ℤ) (run T climb more : ℕ) → up rise ≡ climb → down rise ≡ 0 → climb * T ≤ more * run →
    more * run < climb * T + run → IsRoundedUp rise run T (pos more)
rounded_rising rise run T climb more climbs none low high =
    let own = times rise T in
    let nothing = ap (λ (t : ℕ). t * T) none in
    let scaled = ap (λ (t : ℕ). t * T) climbs in
    record {
      not_below = omega (arith, ints, own, nothing, scaled, low);
      least = omega
          (arith, ints, own, nothing, scaled, high);
    }

pub overflow_sub-result : goal.overflow_sub-result
overflow_sub-result c =
    let flat = c.args.flat.now in
    let parts = falls_parts flat.rise c.unsigned_abs-rise.result (omega (arith, ints, c.if-flat-lt0.true))
    (own_abs flat.rise c.unsigned_abs-rise.result (omega (arith, ints)) c.unsigned_abs-rise.ensures.value) in
    falls_less c.args.steep.now flat (2 ^ c.args.places) c.unsigned_abs-rise.result c.rounded_up-more.result
    c.rounded_down.result c.requires.in_range.positive c.requires.flat_in_range.positive c.requires.rises
    parts.0 parts.1 c.rounded_up-more.ensures.not_below c.rounded_down.ensures.not_above

pub returns-then-flat-lt0 : goal.returns-then-flat-lt0
returns-then-flat-lt0 c =
    let flat = c.args.flat.now in
    let parts = falls_parts flat.rise c.unsigned_abs-rise.result (omega (arith, ints, c.if-flat-lt0.true))
    (own_abs flat.rise c.unsigned_abs-rise.result (omega (arith, ints)) c.unsigned_abs-rise.ensures.value) in
    let less = falls_less c.args.steep.now flat
    (2 ^ c.args.places) c.unsigned_abs-rise.result c.rounded_up-more.result c.rounded_down.result
    c.requires.in_range.positive c.requires.flat_in_range.positive c.requires.rises
    parts.0 parts.1 c.rounded_up-more.ensures.not_below c.rounded_down.ensures.not_above in
    record {
      steep = pos c.rounded_up-more.result;
      steep_is = record {
        not_below = omega (arith, ints, c.rounded_up-more.ensures.not_below);
        least = omega
            (arith, ints, c.rounded_up-more.ensures.nearest);
      };
      flat = pos 0 -ℤ pos c.rounded_down.result;
      flat_is = rounded_falling flat.rise flat.run
          (2 ^ c.args.places) c.unsigned_abs-rise.result c.rounded_down.result parts.0 parts.1
          c.rounded_down.ensures.not_above c.rounded_down.ensures.nearest;
      sum = omega (arith, ints, less);
    }

pub returns-else-flat-lt0 : goal.returns-else-flat-lt0
returns-else-flat-lt0 c =
    let flat = c.args.flat.now in
    let parts = rises_parts flat.rise c.unsigned_abs-rise.result (omega (arith, ints, c.if-flat-lt0.false))
    (own_abs flat.rise c.unsigned_abs-rise.result (omega (arith, ints)) c.unsigned_abs-rise.ensures.value) in
    record {
      steep = pos c.rounded_up-more.result;
      steep_is = record {
        not_below = omega (arith, ints, c.rounded_up-more.ensures.not_below);
        least = omega
            (arith, ints, c.rounded_up-more.ensures.nearest);
      };
      flat = pos c.rounded_up.result;
      flat_is = rounded_rising flat.rise flat.run
          (2 ^ c.args.places) c.unsigned_abs-rise.result c.rounded_up.result parts.0 parts.1
          c.rounded_up.ensures.not_below c.rounded_up.ensures.nearest;
      sum = omega (arith, ints);
    }
