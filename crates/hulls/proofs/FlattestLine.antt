-- The line of the flat pair fits its run, if any line does, and none that fits is flatter.
--
-- Main results: `IsFlatLine-alone` and `IsFlatLine-from_pair`, by the lower and the upper place of the flat pair,
-- and `MeanRises-from_lines`.
use Rattle.std.proofs.Common.{
  ◌≡◌,
  ℕ,
  ◌+◌,
  ◌*◌,
  ◌-◌,
  ◌^◌,
  ◌<◌,
  ◌≤◌,
  ◌∙◌,
  ℤ,
  pos,
  negsuc,
  of_z,
  to_z,
  w64,
  ◌+ℤ◌,
  ◌-ℤ◌,
  ◌*ℤ◌,
  ◌≤ℤ◌,
  ◌<ℤ◌,
  inl,
  inr,
  refl,
  ap,
  sym,
  arith,
}
use Rattle.std.proofs.lemmas.Int.{ints}
use Rattle.std.proofs.lemmas.Bool.{cases_lt, cases_order}
use Rattle.std.proofs.Math.Nat.{mul-le-mul_right}
use borrow.Author.Differences.{up, down}
use Rattle.exact_cross.specs.declared.slope.Slope.{Slope}
use Rattle.exact_cross.specs.Points.{Points, IsAscending}
use Rattle.exact_cross.specs.Lines.{RationalLine, IsWithin, FitsRun, SomeLineFits}
use Rattle.exact_cross.specs.Steep.{IsFlatPair, IsSteepOf, line_of_pair}
use Rattle.exact_cross.proofs.CallerLemmas.{
  products_le-out,
  IsWithin-above,
  IsWithin-below,
  IsWithin-in,
  flat_at_most_steep,
  line_of_pair-level,
  line_of_pair-rising,
}
use Rattle.hulls.specs.declared.flat.FlatLine.{FlatLine}
use Rattle.hulls.specs.declared.vertex.Vertex.{Vertex}
use Rattle.hulls.specs.declared.fitting.Hulls.{Hulls}
use Rattle.hulls.specs.Vertices.{vertex_at}
use Rattle.hulls.specs.Hull.{IsVertexOf, lower_of}
use Rattle.hulls.specs.Hulls.{StandsFor, mirrored}
use Rattle.hulls.proofs.Mirrored.{IsFlatPair-from_mirrored}
use Rattle.hulls.specs.FlatLines.{rational_flat, IsFlatLine, MeanRises}

-- the line through the points eps above a and eps below b, with this rise
abbrev pub falling_line : Points → ℕ → ℕ → ℕ → ℤ → FlatLine
falling_line p eps a b rise = record { x0 = p.x a; y0 = p.y a + eps; rise = rise; run = p.x b - p.x a }

-- it is within eps at a place where these two sums say so
within_falling : (p : Points) (eps j x0 y0 run : ℕ) (rise : ℤ) (positive : 0 < run) →
    up rise * p.x j + y0 * run + down rise * x0 ≤ down rise * p.x j + up rise * x0 + run * p.y j + run * eps →
    down rise * p.x j + up rise * x0 + run * p.y j ≤ up rise * p.x j + y0 * run + down rise * x0 + run * eps →
    IsWithin p eps (rational_flat (record { x0 = x0; y0 = y0; rise = rise; run = run }) positive) j
within_falling p eps j x0 y0 run rise positive above below =
    IsWithin-in p eps (rational_flat (record { x0 = x0; y0 = y0; rise = rise; run = run }) positive) j (omega (
      arith,
      ints,
    )) (omega (arith, ints))

-- at a place left of b, the pair (j, b) is no less flat
above_left : (u v ya yb eps width gap xa xb xj yj : ℕ) → u + (ya + 2 * eps) ≡ v + yb → xb ≡ xa + width → xb ≡ xj + gap →
    yb * width + (ya + 2 * eps) * gap ≤ yb * gap + (yj + 2 * eps) * width →
    u * xj + (ya + eps) * width + v * xa ≤ v * xj + u * xa + width * yj + width * eps
above_left u v ya yb eps width gap xa xb xj yj climbs spans left flatter =
    omega (
      arith,
      flatter,
      ap (λ (t : ℕ). t * gap) climbs,
      ap (λ (t : ℕ). t * width) climbs,
      ap (λ (t : ℕ). u * t)
          spans,
      ap (λ (t : ℕ). v * t) spans,
      ap (λ (t : ℕ). u * t) left,
      ap (λ (t : ℕ). v * t) left,
    )

-- at a place right of b, the pair (b, j) is no less steep
above_right : (u v ya yb eps width gap xa xb xj yj : ℕ) → u + (ya + 2 * eps) ≡ v + yb → xb ≡ xa + width → xj ≡ xb +
    gap →
    yb * gap + yb * width ≤ (yj + 2 * eps) * width + (ya + 2 * eps) * gap →
    u * xj + (ya + eps) * width + v * xa ≤ v * xj + u * xa + width * yj + width * eps
above_right u v ya yb eps width gap xa xb xj yj climbs spans right steeper =
    omega (
      arith,
      steeper,
      ap (λ (t : ℕ). t * gap) climbs,
      ap (λ (t : ℕ). t * width) climbs,
      ap (λ (t : ℕ). u * t)
          spans,
      ap (λ (t : ℕ). v * t) spans,
      ap (λ (t : ℕ). u * t) right,
      ap (λ (t : ℕ). v * t) right,
    )

-- at a place right of a, the pair (a, j) is no less flat
below_right : (u v ya yb eps width gap xa xj yj : ℕ) → u + (ya + 2 * eps) ≡ v + yb → xj ≡ xa + gap →
    yj * width + (ya + 2 * eps) * gap ≤ yb * gap + (ya + 2 * eps) * width →
    v * xj + u * xa + width * yj ≤ u * xj + (ya + eps) * width + v * xa + width * eps
below_right u v ya yb eps width gap xa xj yj climbs right flatter =
    omega (arith, flatter, ap (λ (t : ℕ). t * gap) climbs, ap (λ (t : ℕ). u * t) right, ap (λ (t : ℕ). v * t) right)

-- at a place left of a, the pair (j, a) is no less steep
below_left : (u v ya yb eps width gap xa xj yj : ℕ) → u + (ya + 2 * eps) ≡ v + yb → xa ≡ xj + gap →
    yb * gap + yj * width ≤ (ya + 2 * eps) * width + (ya + 2 * eps) * gap →
    v * xj + u * xa + width * yj ≤ u * xj + (ya + eps) * width + v * xa + width * eps
below_left u v ya yb eps width gap xa xj yj climbs left steeper =
    omega (arith, steeper, ap (λ (t : ℕ). t * gap) climbs, ap (λ (t : ℕ). u * t) left, ap (λ (t : ℕ). v * t) left)

-- the flat pair of a run that some line fits, with its rise
pub record Falls (p : Points) (eps s e a b : ℕ) (rise : ℤ) : Type 0 where
  pub ascends : IsAscending p
  pub inside : e ≤ p.count
  pub fits : SomeLineFits p eps s e
  pub flat : IsFlatPair p eps s e a b
  pub own : rise ≡ pos (p.y b) -ℤ pos (p.y a + 2 * eps)

pub record IsBroad (p : Points) (a b : ℕ) : Type 0 where
  pub positive : 0 < p.x b - p.x a
  pub spans : p.x b ≡ p.x a + (p.x b - p.x a)

IsBroad-from_pair : (p : Points) (a b : ℕ) → IsAscending p → a < b → b < p.count → IsBroad p a b
IsBroad-from_pair p a b ascends rises inside =
    let right : p.x a < p.x b = ascends.x_rises a b rises inside in
    record { positive = omega arith; spans = omega arith }

climbs_of : (ya yb eps : ℕ) (rise : ℤ) → rise ≡ pos yb -ℤ pos (ya + 2 * eps) → up rise + (ya + 2 * eps) ≡ down rise + yb
climbs_of ya yb eps rise own = omega (arith, ints)

falling_above : (p : Points) (eps s e a b j : ℕ) (rise : ℤ) → Falls p eps s e a b rise → s ≤ j → j < e →
    up rise * p.x j + (p.y a + eps) * (p.x b - p.x a) + down rise * p.x a ≤ down rise * p.x j + up rise * p.x a + (p.x
    b - p.x a) * p.y j + (p.x b - p.x a) * eps
falling_above p eps s e a b j rise falls from to =
    let q = falls.flat.pair in
    let inside = falls.inside in
    let pair : IsBroad p a b = IsBroad-from_pair p a b falls.ascends q.rises (omega (arith, q.to_end)) in
    let climbs = climbs_of (p.y a) (p.y b) eps rise falls.own in
    elim (cases_order j b) [
      | inl same ↦ let here : p.x j ≡ p.x b = ap p.x same in let level : p.y j ≡ p.y b = ap p.y same in
          rw (here, level) (omega (
            arith,
            ap (λ (t : ℕ). t * (p.x b - p.x a)) climbs,
            ap (λ (t : ℕ). up rise * t)
                pair.spans,
            ap (λ (t : ℕ). down rise * t) pair.spans,
          ))
      | inr (inl left) ↦
          let gap : IsBroad p j b = IsBroad-from_pair p j b falls.ascends left (omega (arith, q.to_end)) in
          let flatter = products_le-out (p.y b) (p.y j + 2 * eps) (p.x b - p.x a) (p.y b) (p.y a + 2 * eps) (p.x b -
          p.x j) (falls.flat.greatest j b (record { from_start = from; rises = left; to_end = q.to_end })).at_most
          in
          above_left (up rise) (down rise) (p.y a) (p.y b) eps (p.x b - p.x a) (p.x b - p.x j) (p.x a) (p.x b) (p.x j)
          (p.y j) climbs pair.spans gap.spans flatter
      | inr (inr right) ↦
          let gap : IsBroad p b j = IsBroad-from_pair p b j falls.ascends right (omega arith) in
          let steeper = products_le-out (p.y b) (p.y a + 2 * eps) (p.x j - p.x b) (p.y j + 2 * eps) (p.y b) (p.x b -
          p.x a)
          (flat_at_most_steep p eps s e a b b j falls.ascends inside falls.fits q (record {
            from_start = omega (
              arith,
              q.from_start,
              q.rises,
            );
            rises = right;
            to_end = to;
          })).at_most in
          above_right (up rise) (down rise) (p.y a) (p.y b) eps (p.x b - p.x a) (p.x j - p.x b) (p.x a) (p.x b) (p.x
          j) (p.y j) climbs pair.spans gap.spans steeper
    ]

falling_below : (p : Points) (eps s e a b j : ℕ) (rise : ℤ) → Falls p eps s e a b rise → s ≤ j → j < e →
    down rise * p.x j + up rise * p.x a + (p.x b - p.x a) * p.y j ≤ up rise * p.x j + (p.y a + eps) * (p.x b - p.x a)
    + down rise * p.x a + (p.x b - p.x a) * eps
falling_below p eps s e a b j rise falls from to =
    let q = falls.flat.pair in
    let inside = falls.inside in
    let climbs = climbs_of (p.y a) (p.y b) eps rise falls.own in
    elim (cases_order j a) [
      | inl same ↦ let here : p.x j ≡ p.x a = ap p.x same in let level : p.y j ≡ p.y a = ap p.y same in
          rw (here, level) (omega arith)
      | inr (inl left) ↦
          let gap : IsBroad p j a = IsBroad-from_pair p j a falls.ascends left (omega (arith, q.rises, q.to_end)) in
          let steeper = products_le-out (p.y b) (p.y a + 2 * eps) (p.x a - p.x j) (p.y a + 2 * eps) (p.y j) (p.x b -
          p.x a)
          (flat_at_most_steep p eps s e a b j a falls.ascends inside falls.fits q (record {
            from_start = from;
            rises =
                left;
            to_end = omega (arith, q.rises, q.to_end);
          })).at_most in
          below_left (up rise) (down rise) (p.y a) (p.y b) eps (p.x b - p.x a) (p.x a - p.x j) (p.x a) (p.x j) (p.y j)
          climbs gap.spans steeper
      | inr (inr right) ↦
          let gap : IsBroad p a j = IsBroad-from_pair p a j falls.ascends right (omega arith) in
          let flatter = products_le-out (p.y j) (p.y a + 2 * eps) (p.x b - p.x a) (p.y b) (p.y a + 2 * eps) (p.x j -
          p.x a) (falls.flat.greatest a j (record {
            from_start = q.from_start;
            rises = right;
            to_end = to;
          })).at_most in
          below_right (up rise) (down rise) (p.y a) (p.y b) eps (p.x b - p.x a) (p.x j - p.x a) (p.x a) (p.x j) (p.y
          j) climbs gap.spans flatter
    ]

-- a line (up - down) / den that fits at the two places rises enough between them
rises_between : (rise fall icpt drop den eps xa xb ya yb gap : ℕ) → xb ≡ xa + gap →
    rise * xa + icpt ≤ fall * xa + drop + den * ya + den * eps → fall * xb + drop + den * yb ≤ rise * xb + icpt + den
    * eps →
    fall * gap + den * yb ≤ rise * gap + den * ya + 2 * (den * eps)
rises_between rise fall icpt drop den eps xa xb ya yb gap right at_a at_b =
    omega (arith, at_a, at_b, ap (λ (t : ℕ). rise * t) right, ap (λ (t : ℕ). fall * t) right)

rises_between-places : (p : Points) (eps a b : ℕ) (line : RationalLine) → IsAscending p → a < b → b < p.count →
    IsWithin p eps line a → IsWithin p eps line b →
    down line.num * (p.x b - p.x a) + line.den * p.y b ≤ up line.num * (p.x b - p.x a) + line.den * p.y a + 2 *
    (line.den * eps)
rises_between-places p eps a b line ascends rises inside at_a at_b =
    rises_between (up line.num) (down line.num) (up line.icpt) (down line.icpt) line.den eps (p.x a) (p.x b) (p.y a)
    (p.y b) (p.x b - p.x a) (IsBroad-from_pair p a b ascends rises inside).spans
    (IsWithin-above p eps line a at_a) (IsWithin-below p eps line b at_b)

-- no line that fits is flatter
no_flatter : (ya yb eps width den : ℕ) (rise num : ℤ) → rise ≡ pos yb -ℤ pos (ya + 2 * eps) →
    down num * width + den * yb ≤ up num * width + den * ya + 2 * (den * eps) → (rise *ℤ pos den) ≤ℤ (num *ℤ pos width)
no_flatter ya yb eps width den rise num own enough =
    omega (arith, ints, enough, ap (λ (t : ℕ). t * den) (climbs_of ya yb eps rise own))

falling_in_range : (ya yb eps : ℕ) (rise : ℤ) → ya ≤ yb → yb < 2 ^ 32 → eps ≤ 1048576 → rise ≡ pos yb -ℤ pos (ya + 2 *
    eps) → (negsuc 2097151 ≤ℤ rise) × (rise <ℤ pos (2 ^ 32))
falling_in_range ya yb eps rise climbs low bounded own = (omega (arith, ints), omega (arith, ints))

pub IsFlatLine-from_pair : (p : Points) (eps s e a b : ℕ) (rise : ℤ) → p.y a < 2 ^ 32 → p.y b < 2 ^ 32 → eps ≤ 1048576
    → Falls p eps s e a b rise → IsFlatLine p eps s e (falling_line p eps a b rise)
IsFlatLine-from_pair p eps s e a b rise low_a low_b bounded falls =
    let q = falls.flat.pair in
    let inside = falls.inside in
    let pair : IsBroad p a b = IsBroad-from_pair p a b falls.ascends q.rises (omega (arith, q.to_end)) in
    let upward = falls.ascends.y_never_falls a b (omega (arith, q.rises)) (omega (arith, q.to_end)) in
    let range = falling_in_range (p.y a) (p.y b) eps rise upward low_b bounded falls.own in
    record {
      in_range = record {
        positive = pair.positive;
        not_above = omega arith;
        not_too_flat = range.0;
        not_too_steep =
            range.1;
      };
      fits = λ j from to. within_falling p eps j (p.x a) (p.y a + eps) (p.x b - p.x a) rise pair.positive
          (falling_above p eps s e a b j rise falls from to) (falling_below p eps s e a b j rise falls from to);
      alone = λ one. absurd (omega (arith, one, q.from_start, q.rises, q.to_end));
      flattest = λ more other near. no_flatter (p.y a) (p.y b) eps (p.x b - p.x a) other.den rise other.num falls.own
          (rises_between-places p eps a b other falls.ascends q.rises (omega (arith, q.to_end)) (near a q.from_start
          (omega (arith, q.rises, q.to_end))) (near b (omega (arith, q.from_start, q.rises)) q.to_end));
    }

-- the level line through the one point of a run
abbrev pub level_line : Points → ℕ → FlatLine
level_line p s = record { x0 = p.x s; y0 = p.y s; rise = pos 0; run = 1 }

level_line_fits : (p : Points) (eps s : ℕ) (positive : 0 < 1) → FitsRun p eps (rational_flat (level_line p s)
    positive) s (s + 1)
level_line_fits p eps s positive = λ j from to.
    let here : p.y j ≡ p.y s = ap p.y (one_place s j from to) in
    within_falling p eps j (p.x s) (p.y s) 1 (pos 0) positive (omega (arith, ints)) (omega (arith, ints))
  where
    one_place : (s j : ℕ) → s ≤ j → j < s + 1 → j ≡ s
    one_place s j from to = omega arith

pub IsFlatLine-alone : (p : Points) (eps s e : ℕ) → e ≡ s + 1 → p.y s < 2 ^ 32 → IsFlatLine p eps s e (level_line p s)
IsFlatLine-alone p eps s e one low =
    let positive : 0 < 1 = omega arith in
    record {
      in_range = record {
        positive = positive;
        not_above = omega arith;
        not_too_flat = omega (arith, ints);
        not_too_steep = omega (arith, ints);
      };
      fits = λ j from to. level_line_fits p eps s positive j from (omega arith);
      alone = λ same. refl;
      flattest = λ more. absurd (omega (arith, more));
    }

-- ---- the mean of both lines

-- the flat line rises by no less than the pair of the steep line less twice the bound, and so the mean by no less
-- than the pair
mean_rises : (ya yb eps width run : ℕ) (rise : ℤ) → ya ≤ yb → down rise * width + run * yb ≤ up rise * width + run *
    ya + 2 * (run * eps) →
    pos 0 ≤ℤ (pos ((yb + 2 * eps - ya) * run) +ℤ rise *ℤ pos width)
mean_rises ya yb eps width run rise climbs enough =
    let whole : yb + 2 * eps - ya + ya ≡ yb + 2 * eps = omega arith in
    omega (arith, ints, enough, ap (λ (t : ℕ). t * run) whole, mul-le-mul_right run climbs)

pub MeanRises-from_lines : (p : Points) (eps s e a b : ℕ) (flat : FlatLine) → IsAscending p → s < e → e ≤ p.count →
    IsSteepOf p eps s e a b → IsFlatLine p eps s e flat →
    MeanRises (line_of_pair p eps a b) flat
MeanRises-from_lines p eps s e a b flat ascends some inside steep is =
    elim (cases_lt (s + 1) e) [
      | inl more ↦
          let q = (steep.steep more).pair in
          let upward = ascends.y_never_falls a b (omega (arith, q.rises)) (omega (arith, q.to_end)) in
          let enough = rises_between-places p eps a b (rational_flat flat is.in_range.positive) ascends q.rises (omega
          (arith, q.to_end))
          (is.fits a q.from_start (omega (arith, q.rises, q.to_end))) (is.fits b (omega (
            arith,
            q.from_start,
            q.rises,
          )) q.to_end) in
          rw (line_of_pair-rising p eps a b q.rises) (record {
            rises = mean_rises (p.y a) (p.y b) eps (p.x b - p.x a)
                flat.run flat.rise upward enough;
          })
      | inr one ↦
          let alone = steep.alone (omega arith) in
          let level : flat ≡ level_line p s = is.alone (omega arith) in
          rw (level, line_of_pair-level p eps a b (alone.0 ∙ sym alone.1)) (record { rises = omega (arith, ints) })
    ]

-- ---- as the hulls keep it

-- the rise of the pair upside down, turned round
turned_rise : (ya yb eps : ℕ) (fall : ℤ) → ya ≤ yb → yb < 2 ^ 32 → eps ≤ 1048576 → fall ≡ pos (4294967295 - yb + 2 *
    eps) -ℤ pos (4294967295 - ya) →
    to_z w64 (of_z w64 (pos 0 -ℤ to_z w64 (of_z w64 fall))) ≡ pos yb -ℤ pos (ya + 2 * eps)
turned_rise ya yb eps fall climbs low bounded own = omega (arith, ints)

-- the line of the flat pair, from the pair's lower point and its slope, upside down
pub IsFlatLine-stored : (hulls : Hulls) (p : Points) (eps s e : ℕ) (low : Vertex) (height bound run : ℕ) (fall : ℤ) →
    StandsFor hulls p eps s e →
    (low.place ≡ hulls.flat.upper → ⊥) → low ≡ vertex_at hulls.flat.vertices.items hulls.flat.tangent → height ≡
    4294967295 - low.height → bound ≡ hulls.eps →
    fall ≡ hulls.flat.slope.slope.rise → run ≡ hulls.flat.slope.slope.run →
    IsFlatLine p eps s e (record {
      x0 = low.x;
      y0 = height + bound;
      rise = to_z w64 (of_z w64 (pos 0 -ℤ to_z w64 (of_z
          w64 fall)));
      run = run;
    })
IsFlatLine-stored hulls p eps s e low height bound run fall stands apart is same_height same_bound same_fall same_run =
    let own = stands.flat.pair in
    let a = lower_of hulls.flat in
    let b = hulls.flat.upper in
    let place : low.place ≡ a = ap (λ (v : Vertex). v.place) is in
    let point : IsVertexOf (mirrored p) low = rw is (stands.flat.are_points hulls.flat.tangent (omega arith)
    stands.flat.inside) in
    elim (cases_lt (s + 1) e) [
      | inl more ↦
          let steep = own.pair.steep more in
          let q = steep.pair in
          let inside = stands.inside in
          let low_a = stands.low a q.from_start (omega (arith, q.rises, q.to_end)) in
          let low_b = stands.low b (omega (arith, q.from_start, q.rises)) q.to_end in
          let climbs = stands.ascends.y_never_falls a b (omega (arith, q.rises)) (omega (arith, q.to_end)) in
          let slope = own.more more in
          let rise = turned_rise (p.y a) (p.y b) eps fall climbs low_b stands.bounded (same_fall ∙ ap (λ (t : Slope).
          t.rise) slope) in
          let width : run ≡ p.x b - p.x a = same_run ∙ ap (λ (t : Slope). t.run) slope in
          let x0 : low.x ≡ p.x a = point.x ∙ ap p.x place in
          let upside : low.height ≡ 4294967295 - p.y a = point.height ∙ ap (mirrored p).y place in
          let y0 : height + bound ≡ p.y a + eps = omega (arith, same_height, same_bound, stands.bound, upside, low_a) in
          rw (x0, y0, rise, width) (IsFlatLine-from_pair p eps s e a b (pos (p.y b) -ℤ pos (p.y a + 2 * eps)) low_a
          low_b stands.bounded
          (record {
            ascends = stands.ascends;
            inside = inside;
            fits = stands.fits;
            flat = IsFlatPair-from_mirrored p
                eps s e a b stands.low steep;
            own = refl;
          }))
      | inr one ↦ let alone = own.pair.alone (omega (arith, own.some)) in absurd (apart (place ∙ alone.0 ∙ sym alone.1))
    ]

pub IsFlatLine-stored_alone : (hulls : Hulls) (p : Points) (eps s e : ℕ) (low : Vertex) (height : ℕ) → StandsFor hulls
    p eps s e →
    low.place ≡ hulls.flat.upper → low ≡ vertex_at hulls.flat.vertices.items hulls.flat.tangent → height ≡ 4294967295
    - low.height →
    IsFlatLine p eps s e (record { x0 = low.x; y0 = height; rise = pos 0; run = 1 })
IsFlatLine-stored_alone hulls p eps s e low height stands together is same_height =
    let own = stands.flat.pair in
    let a = lower_of hulls.flat in
    let place : low.place ≡ a = ap (λ (v : Vertex). v.place) is in
    let point : IsVertexOf (mirrored p) low = rw is (stands.flat.are_points hulls.flat.tangent (omega arith)
    stands.flat.inside) in
    elim (cases_lt (s + 1) e) [
      | inl more ↦ absurd (omega (arith, place, together, (own.pair.steep more).pair.rises))
      | inr one ↦
          let here : low.place ≡ s = place ∙ (own.pair.alone (omega (arith, own.some))).0 in
          let low_s = stands.low s (omega arith) own.some in
          let x0 : low.x ≡ p.x s = point.x ∙ ap p.x here in
          let upside : low.height ≡ 4294967295 - p.y s = point.height ∙ ap (mirrored p).y here in
          let y0 : height ≡ p.y s = omega (arith, same_height, upside, low_s) in
          rw (x0, y0) (IsFlatLine-alone p eps s e (omega (arith, own.some)) low_s)
    ]
