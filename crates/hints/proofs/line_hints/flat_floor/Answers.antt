-- The floor of the climb, raised by the height that it begins at.
use Rattle.std.proofs.Common.{◌≡◌, ◌+◌, ◌*◌, ◌<◌, ◌≤◌, ℕ, ℤ, pos, ◌+ℤ◌, ap, arith}
use Rattle.std.proofs.lemmas.Int.{ints}
use borrow.Author.Differences.{up, down}
use Rattle.exact_cross.specs.Floors.{IsFloorAt}
use Rattle.exact_cross.proofs.CallerLemmas.{IsFloorAt-out}
use Rattle.hulls.specs.declared.flat.FlatLine.{FlatLine}
use Rattle.hints.specs.Made.{IsFlatFloorAt}
use Rattle.hints.proofs.RoundedLemmas.{own_abs, falls_parts, rises_parts}
use Rattle.hints.proofs.MiddleLemmas.{times, flat_height-out}
use Rattle.hints.proofs.line_hints.flat_floor.Goals as goal

-- f is the floor where these two sums of naturals say so
IsFlatFloorAt-in : (line : FlatLine) (q : ℕ) (f : ℤ) →
    up f * line.run + (down line.rise * q + up line.rise * line.x0) ≤ down f * line.run +
    (line.y0 * line.run + up line.rise * q + down line.rise * line.x0) →
    down f * line.run + (line.y0 * line.run + up line.rise * q + down line.rise * line.x0) < up f * line.run +
    line.run + (down line.rise * q + up line.rise * line.x0) →
    IsFlatFloorAt line q f
IsFlatFloorAt-in line q f low next =
    let height = flat_height-out line q in
    let back = times f line.run in
    let over = times (f +ℤ pos 1) line.run in
    let one : up (f +ℤ pos 1) + down f ≡ down (f +ℤ pos 1) + up f + 1 = omega (arith, ints) in
    let one_run = ap (λ (t : ℕ). t * line.run) one in
    record {
      not_above = omega (arith, ints, height, back, low);
      greatest = omega
          (arith, ints, height, over, one_run, next);
    }

floor_raised : (line : FlatLine) (q : ℕ) (f g : ℤ) → f ≡ pos line.y0 +ℤ g →
    up g * line.run + (down line.rise * q + up line.rise * line.x0) ≤ down g * line.run +
    (up line.rise * q + down line.rise * line.x0) →
    down g * line.run + (up line.rise * q + down line.rise * line.x0) < up g * line.run + line.run +
    (down line.rise * q + up line.rise * line.x0) →
    IsFlatFloorAt line q f
floor_raised line q f g is low next =
    let raised : up f + down g ≡ down f + up g + line.y0 = omega (arith, ints, is) in
    let raised_run = ap (λ (t : ℕ). t * line.run) raised in
    IsFlatFloorAt-in line q f (omega (arith, low, raised_run)) (omega (arith, next, raised_run))

pub floor_falling : (line : FlatLine) (q fall : ℕ) (f g : ℤ) → up line.rise ≡ 0 → down line.rise ≡ fall →
    f ≡ pos line.y0 +ℤ g →
    IsFloorAt (record { x0 = q; y0 = pos 0; rise = fall; run = line.run }) line.x0 g → IsFlatFloorAt line q f
floor_falling line q fall f g none falls is floor =
    let (low, next) = IsFloorAt-out (record { x0 = q; y0 = pos 0; rise = fall; run = line.run }) line.x0 g floor in
    let none_q = ap (λ (t : ℕ). t * q) none in
    let none_x0 = ap (λ (t : ℕ). t * line.x0) none in
    let falls_q = ap (λ (t : ℕ). t * q) falls in
    let falls_x0 = ap (λ (t : ℕ). t * line.x0) falls in
    floor_raised line q f g is (omega (arith, low, none_q, none_x0, falls_q, falls_x0))
    (omega (arith, next, none_q, none_x0, falls_q, falls_x0))

pub floor_rising : (line : FlatLine) (q climb : ℕ) (f g : ℤ) → up line.rise ≡ climb → down line.rise ≡ 0 →
    f ≡ pos line.y0 +ℤ g →
    IsFloorAt (record { x0 = line.x0; y0 = pos 0; rise = climb; run = line.run }) q g → IsFlatFloorAt line q f
floor_rising line q climb f g climbs none is floor =
    let (low, next) = IsFloorAt-out (record { x0 = line.x0; y0 = pos 0; rise = climb; run = line.run }) q g floor in
    let none_q = ap (λ (t : ℕ). t * q) none in
    let none_x0 = ap (λ (t : ℕ). t * line.x0) none in
    let climbs_q = ap (λ (t : ℕ). t * q) climbs in
    let climbs_x0 = ap (λ (t : ℕ). t * line.x0) climbs in
    floor_raised line q f g is (omega (arith, low, none_q, none_x0, climbs_q, climbs_x0))
    (omega (arith, next, none_q, none_x0, climbs_q, climbs_x0))

pub returns-then-line-lt0 : goal.returns-then-line-lt0
returns-then-line-lt0 c =
    let line = c.args.line.now in
    let parts = falls_parts line.rise c.unsigned_abs-rise.result (omega (arith, ints, c.if-line-lt0.true))
    (own_abs line.rise c.unsigned_abs-rise.result (omega (arith, ints)) c.unsigned_abs-rise.ensures.value) in
    floor_falling line c.args.q c.unsigned_abs-rise.result _ c.climb.result parts.0 parts.1
    (omega (arith, ints, c.from.ensures, c.climb.ensures.not_high, c.climb.ensures.not_low)) c.climb.ensures.exact

pub returns-else-line-lt0 : goal.returns-else-line-lt0
returns-else-line-lt0 c =
    let line = c.args.line.now in
    let parts = rises_parts line.rise c.unsigned_abs-rise.result (omega (arith, ints, c.if-line-lt0.false))
    (own_abs line.rise c.unsigned_abs-rise.result (omega (arith, ints)) c.unsigned_abs-rise.ensures.value) in
    floor_rising line c.args.q c.unsigned_abs-rise.result _ c.climb-else-line-lt0.result parts.0 parts.1
    (omega (
      arith,
      ints,
      c.from-else-line-lt0.ensures,
      c.climb-else-line-lt0.ensures.not_high,
      c.climb-else-line-lt0.ensures.not_low,
    )) c.climb-else-line-lt0.ensures.exact
