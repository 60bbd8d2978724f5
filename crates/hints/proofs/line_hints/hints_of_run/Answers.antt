-- Both lines are within the bound at the run's first and last place, so that their floors and climbs are small.
use Rattle.std.proofs.Common.{◌≡◌, ◌+◌, ◌-◌, ◌*◌, ◌<◌, ◌≤◌, ◌^◌, ℕ, ℤ, pos, refl, ◌∙◌, arith}
use Rattle.std.specs.Prelude.{unsigned_abs}
use Rattle.std.proofs.lemmas.Int.{ints}
use Rattle.std.proofs.lemmas.Nat.{pow_pos, div-mul-add, mod-mul-add}
use Rattle.std.proofs.Math.Nat.{mul-le-mul_left}
use borrow.Author.Differences.{up, down}
use Rattle.exact_cross.specs.declared.line.Line.{Line}
use Rattle.exact_cross.specs.Points.{Points, IsAscending}
use Rattle.exact_cross.specs.PointLists.{points_in}
use Rattle.exact_cross.specs.Floors.{IsFloorAt}
use Rattle.exact_cross.proofs.CallerLemmas.{IsAscending-points_in}
use Rattle.hulls.specs.declared.flat.FlatLine.{FlatLine}
use Rattle.hints.specs.Made.{AreLinesOfRun, IsFlatFloorAt, IsRoundedUp}
use Rattle.hints.proofs.RoundedLemmas.{abs_climb}
use Rattle.hints.proofs.MiddleLemmas.{IsTaken-steep, IsTaken-flat, IsAt-steep, IsAt-flat, climbs, floor_above}
use Rattle.hints.proofs.MiddleLemmas.{floor_below, x_at_most, TellsPoints-from_lines}
use Rattle.hints.proofs.line_hints.hints_of_run.Goals as goal

-- what is known of a run's lines at its ends
record HasEnds (p : Points) (eps s e : ℕ) (line : Line) (flat : FlatLine) : Type 0 where
  pub order : p.x s ≤ p.x (e - 1)
  pub climb : line.rise * (p.x (e - 1) - p.x s) ≤ 2 ^ 33 * line.run
  pub flat_climb : unsigned_abs flat.rise * (p.x (e - 1) - p.x s) ≤ 2 ^ 33 * flat.run
  pub floor : (f m : ℤ) (T : ℕ) → 0 < T → IsFloorAt line (p.x s) f → IsRoundedUp (pos line.rise) line.run T m →
      (down f ≤ up f + eps) × (up f < down f + 2 ^ 33)
  pub flat_floor : (f m : ℤ) (T : ℕ) → 0 < T → IsFlatFloorAt flat (p.x s) f → IsRoundedUp flat.rise flat.run T m →
      (down f ≤ up f + eps) × (up f < down f + 2 ^ 33)

HasEnds-from_lines : (p : Points) (eps s e : ℕ) (line : Line) (flat : FlatLine) → IsAscending p →
    ((j : ℕ) → j < p.count → p.y j < 2 ^ 32) → eps ≤ 1048576 → s < e → e ≤ p.count →
    AreLinesOfRun p eps s e line flat → HasEnds p eps s e line flat
HasEnds-from_lines p eps s e line flat ascends small bounded some within lines =
    let order = x_at_most p s (e - 1) ascends (omega arith) (omega arith) in
    let last_is : p.x (e - 1) ≡ p.x s + (p.x (e - 1) - p.x s) = omega (arith, order) in
    let first_is : p.x s ≡ p.x s + 0 = omega arith in
    let steep_first = IsAt-steep p eps line lines.in_range.positive (p.x s) 0 s first_is
    (lines.fits s (omega arith) some) in
    let steep_last = IsAt-steep p eps line lines.in_range.positive (p.x s) (p.x (e - 1) - p.x s) (e - 1) last_is
    (lines.fits (e - 1) (omega arith) (omega arith)) in
    let flat_first = IsAt-flat p eps flat lines.flat_in_range.positive (p.x s) 0 s first_is
    (lines.flat_fits s (omega arith) some) in
    let flat_last = IsAt-flat p eps flat lines.flat_in_range.positive (p.x s) (p.x (e - 1) - p.x s) (e - 1) last_is
    (lines.flat_fits (e - 1) (omega arith) (omega arith)) in
    let low = small s (omega arith) in
    let high = small (e - 1) (omega arith) in
    let steep_climb = climbs _ _ _ _ _ _ _ _ _ steep_first steep_last in
    let level_climb = climbs _ _ _ _ _ _ _ _ _ flat_first flat_last in
    record {
      order = order;
      climb = omega (
        arith,
        steep_climb.0,
        mul-le-mul_left line.run (at_most (p.y (e - 1)) (2 ^ 32) high),
        mul-le-mul_left line.run bounded,
      );
      flat_climb = abs_climb flat.rise flat.run (p.x (e - 1) - p.x s) (p.y s)
          (p.y (e - 1)) eps level_climb.0 level_climb.1 low high bounded;
      floor = λ f m T positive floor slope.
          let taken = IsTaken-steep line (p.x s) T f m floor slope in
          let above = floor_above _ _ _ _ _ T (p.y s) eps f m lines.in_range.positive positive taken steep_first in
          let below = floor_below _ _ _ _ _ T (p.y s) eps f m lines.in_range.positive positive taken steep_first in
          (omega (arith, below), omega (arith, above, low, bounded));
      flat_floor = λ f m T positive floor slope.
          let taken = IsTaken-flat flat (p.x s) T f m floor slope in
          let above = floor_above _ _ _ _ _ T (p.y s) eps f m lines.flat_in_range.positive positive taken flat_first in
          let below = floor_below _ _ _ _ _ T (p.y s) eps f m lines.flat_in_range.positive positive taken flat_first in
          (omega (arith, below), omega (arith, above, low, bounded));
    }
  where
    at_most : (a b : ℕ) → a < b → a ≤ b
    at_most a b less = omega arith

pub overflow_sub-width-2 : goal.overflow_sub-width-2
overflow_sub-width-2 c =
    (HasEnds-from_lines (points_in c.args.points) c.args.eps c.args.start c.args.run.now.end
    c.args.run.now.segment.line c.args.run.now.flat (IsAscending-points_in c.args.points)
    (λ j inside. c.args.points.low j) c.requires.bounded c.requires.some c.requires.within c.requires.lines).order

pub sum_of_slopes-multiplier-requires-clause-climb : goal.sum_of_slopes-multiplier-requires-clause-climb
sum_of_slopes-multiplier-requires-clause-climb c =
    (HasEnds-from_lines (points_in c.args.points) c.args.eps c.args.start c.args.run.now.end
    c.args.run.now.segment.line c.args.run.now.flat (IsAscending-points_in c.args.points)
    (λ j inside. c.args.points.low j) c.requires.bounded c.requires.some c.requires.within c.requires.lines).climb

pub sum_of_slopes-multiplier-requires-clause-flat_climb : goal.sum_of_slopes-multiplier-requires-clause-flat_climb
sum_of_slopes-multiplier-requires-clause-flat_climb c =
    (HasEnds-from_lines (points_in c.args.points) c.args.eps c.args.start c.args.run.now.end
    c.args.run.now.segment.line c.args.run.now.flat (IsAscending-points_in c.args.points)
    (λ j inside. c.args.points.low j) c.requires.bounded c.requires.some c.requires.within c.requires.lines).flat_climb

pub middle_height-height-requires-clause-steep_not_below : goal.middle_height-height-requires-clause-steep_not_below
middle_height-height-requires-clause-steep_not_below c =
    let ends = HasEnds-from_lines (points_in c.args.points) c.args.eps c.args.start c.args.run.now.end
    c.args.run.now.segment.line c.args.run.now.flat (IsAscending-points_in c.args.points)
    (λ j inside. c.args.points.low j) c.requires.bounded c.requires.some c.requires.within c.requires.lines in
    let slopes = c.sum_of_slopes-multiplier.ensures in
    let steep = ends.floor c.floor_at-steep_floor.result slopes.steep (2 ^ c.binary_places-places.result)
    (pow_pos c.binary_places-places.result) c.floor_at-steep_floor.ensures.exact slopes.steep_is in
    let level = ends.flat_floor c.flat_floor.result slopes.flat (2 ^ c.binary_places-places.result)
    (pow_pos c.binary_places-places.result) c.flat_floor.ensures slopes.flat_is in
    omega (arith, ints, steep.0, steep.1, level.0, level.1, c.requires.bounded)

pub middle_height-height-requires-clause-steep_low : goal.middle_height-height-requires-clause-steep_low
middle_height-height-requires-clause-steep_low c =
    let ends = HasEnds-from_lines (points_in c.args.points) c.args.eps c.args.start c.args.run.now.end
    c.args.run.now.segment.line c.args.run.now.flat (IsAscending-points_in c.args.points)
    (λ j inside. c.args.points.low j) c.requires.bounded c.requires.some c.requires.within c.requires.lines in
    let slopes = c.sum_of_slopes-multiplier.ensures in
    let steep = ends.floor c.floor_at-steep_floor.result slopes.steep (2 ^ c.binary_places-places.result)
    (pow_pos c.binary_places-places.result) c.floor_at-steep_floor.ensures.exact slopes.steep_is in
    let level = ends.flat_floor c.flat_floor.result slopes.flat (2 ^ c.binary_places-places.result)
    (pow_pos c.binary_places-places.result) c.flat_floor.ensures slopes.flat_is in
    omega (arith, ints, steep.0, steep.1, level.0, level.1, c.requires.bounded)

pub middle_height-height-requires-clause-flat_not_below : goal.middle_height-height-requires-clause-flat_not_below
middle_height-height-requires-clause-flat_not_below c =
    let ends = HasEnds-from_lines (points_in c.args.points) c.args.eps c.args.start c.args.run.now.end
    c.args.run.now.segment.line c.args.run.now.flat (IsAscending-points_in c.args.points)
    (λ j inside. c.args.points.low j) c.requires.bounded c.requires.some c.requires.within c.requires.lines in
    let slopes = c.sum_of_slopes-multiplier.ensures in
    let steep = ends.floor c.floor_at-steep_floor.result slopes.steep (2 ^ c.binary_places-places.result)
    (pow_pos c.binary_places-places.result) c.floor_at-steep_floor.ensures.exact slopes.steep_is in
    let level = ends.flat_floor c.flat_floor.result slopes.flat (2 ^ c.binary_places-places.result)
    (pow_pos c.binary_places-places.result) c.flat_floor.ensures slopes.flat_is in
    omega (arith, ints, steep.0, steep.1, level.0, level.1, c.requires.bounded)

pub middle_height-height-requires-clause-flat_low : goal.middle_height-height-requires-clause-flat_low
middle_height-height-requires-clause-flat_low c =
    let ends = HasEnds-from_lines (points_in c.args.points) c.args.eps c.args.start c.args.run.now.end
    c.args.run.now.segment.line c.args.run.now.flat (IsAscending-points_in c.args.points)
    (λ j inside. c.args.points.low j) c.requires.bounded c.requires.some c.requires.within c.requires.lines in
    let slopes = c.sum_of_slopes-multiplier.ensures in
    let steep = ends.floor c.floor_at-steep_floor.result slopes.steep (2 ^ c.binary_places-places.result)
    (pow_pos c.binary_places-places.result) c.floor_at-steep_floor.ensures.exact slopes.steep_is in
    let level = ends.flat_floor c.flat_floor.result slopes.flat (2 ^ c.binary_places-places.result)
    (pow_pos c.binary_places-places.result) c.flat_floor.ensures slopes.flat_is in
    omega (arith, ints, steep.0, steep.1, level.0, level.1, c.requires.bounded)

pub overflow_mul-result : goal.overflow_mul-result
overflow_mul-result c =
    let ends = HasEnds-from_lines (points_in c.args.points) c.args.eps c.args.start c.args.run.now.end
    c.args.run.now.segment.line c.args.run.now.flat (IsAscending-points_in c.args.points)
    (λ j inside. c.args.points.low j) c.requires.bounded c.requires.some c.requires.within c.requires.lines in
    let slopes = c.sum_of_slopes-multiplier.ensures in
    let steep = ends.floor c.floor_at-steep_floor.result slopes.steep (2 ^ c.binary_places-places.result)
    (pow_pos c.binary_places-places.result) c.floor_at-steep_floor.ensures.exact slopes.steep_is in
    let level = ends.flat_floor c.flat_floor.result slopes.flat (2 ^ c.binary_places-places.result)
    (pow_pos c.binary_places-places.result) c.flat_floor.ensures slopes.flat_is in
    omega (
      arith,
      ints,
      steep.0,
      steep.1,
      level.0,
      level.1,
      c.requires.bounded,
      c.middle_height-height.ensures.not_above,
    )

pub overflow_add-result : goal.overflow_add-result
overflow_add-result c =
    let ends = HasEnds-from_lines (points_in c.args.points) c.args.eps c.args.start c.args.run.now.end
    c.args.run.now.segment.line c.args.run.now.flat (IsAscending-points_in c.args.points)
    (λ j inside. c.args.points.low j) c.requires.bounded c.requires.some c.requires.within c.requires.lines in
    let slopes = c.sum_of_slopes-multiplier.ensures in
    let steep = ends.floor c.floor_at-steep_floor.result slopes.steep (2 ^ c.binary_places-places.result)
    (pow_pos c.binary_places-places.result) c.floor_at-steep_floor.ensures.exact slopes.steep_is in
    let level = ends.flat_floor c.flat_floor.result slopes.flat (2 ^ c.binary_places-places.result)
    (pow_pos c.binary_places-places.result) c.flat_floor.ensures slopes.flat_is in
    omega (
      arith,
      ints,
      steep.0,
      steep.1,
      level.0,
      level.1,
      c.requires.bounded,
      c.middle_height-height.ensures.not_above,
      c.from.ensures,
      c.binary_places-places.ensures.most,
    )

pub returns : goal.returns
returns c =
    let ends = HasEnds-from_lines (points_in c.args.points) c.args.eps c.args.start c.args.run.now.end
    c.args.run.now.segment.line c.args.run.now.flat (IsAscending-points_in c.args.points)
    (λ j inside. c.args.points.low j) c.requires.bounded c.requires.some c.requires.within c.requires.lines in
    let slopes = c.sum_of_slopes-multiplier.ensures in
    let steep = ends.floor c.floor_at-steep_floor.result slopes.steep (2 ^ c.binary_places-places.result)
    (pow_pos c.binary_places-places.result) c.floor_at-steep_floor.ensures.exact slopes.steep_is in
    let level = ends.flat_floor c.flat_floor.result slopes.flat (2 ^ c.binary_places-places.result)
    (pow_pos c.binary_places-places.result) c.flat_floor.ensures slopes.flat_is in
    let places = c.binary_places-places.result in
    let height = c.middle_height-height.result in
    let few : c.from.result < 128 = omega (arith, c.from.ensures, c.binary_places-places.ensures.most) in
    TellsPoints-from_lines (points_in c.args.points) c.args.eps c.args.start c.args.run.now.end
    c.args.run.now.segment.line c.args.run.now.flat _ c.sum_of_slopes-multiplier.result
    (height * 128 + c.from.result) places height c.floor_at-steep_floor.result c.flat_floor.result
    (IsAscending-points_in c.args.points) c.requires.within refl c.requires.some c.requires.lines
    c.floor_at-steep_floor.ensures.exact c.flat_floor.ensures slopes c.binary_places-places.ensures.fits
    (omega (
      arith,
      ints,
      steep.0,
      steep.1,
      level.0,
      level.1,
      c.requires.bounded,
      c.middle_height-height.ensures.not_above,
    ))
    (omega (arith, ints, steep.0, steep.1, level.0, level.1, c.requires.bounded, c.middle_height-height.ensures.half))
    (div-mul-add height 128 c.from.result few)
    (mod-mul-add height 128 c.from.result few ∙ omega (arith, c.from.ensures))
