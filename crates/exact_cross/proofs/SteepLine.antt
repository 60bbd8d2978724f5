-- The line of the steep pair fits the whole run, where no flat slope is above the steep one.
--
-- Main result: `rising_line_fits`. The line goes from eps below a
-- to eps above b. Above: a place j behind a is no higher, since
-- the pair (a, j) is no less steep; one before a by the flat slope from j to a. Below: likewise by b.
use Rattle.std.proofs.Common.{◌≡◌, ℕ, ◌+◌, ◌*◌, ◌-◌, ◌<◌, ◌≤◌, pos, ◌-ℤ◌, inl, inr, ap, arith}
use Rattle.std.proofs.lemmas.Int.{ints}
use Rattle.std.proofs.lemmas.Bool.{cases_order}
use Rattle.exact_cross.specs.declared.line.Line.{Line}
use Rattle.exact_cross.specs.Points.{Points, IsAscending}
use Rattle.exact_cross.specs.Lines.{IsWithin, FitsRun, rational}
use Rattle.exact_cross.specs.Slopes.{IsAtMost, steep_slope, flat_slope}
use Rattle.exact_cross.specs.Steep.{IsPair, IsSteepPair}
use Rattle.exact_cross.proofs.Cleared.{difference_times, products_le-out, IsWithin-in}

-- the line through the points eps below a and eps above b
abbrev pub rising_line : Points → ℕ → ℕ → ℕ → Line
rising_line p eps a b =
    record { x0 = p.x a; y0 = pos (p.y a) -ℤ pos eps; rise = p.y b + 2 * eps - p.y a; run = p.x b - p.x a }

-- it is within eps at a place where these two sums say so
within_rising : (p : Points) (eps a b j : ℕ) (positive : 0 < p.x b - p.x a) →
    (p.y b + 2 * eps - p.y a) * p.x j + p.y a * (p.x b - p.x a)
    ≤ (p.y b + 2 * eps - p.y a) * p.x a + (p.x b - p.x a) * p.y j + 2 * ((p.x b - p.x a) * eps) →
    (p.y b + 2 * eps - p.y a) * p.x a + (p.x b - p.x a) * p.y j
    ≤ (p.y b + 2 * eps - p.y a) * p.x j + p.y a * (p.x b - p.x a) →
    IsWithin p eps (rational (rising_line p eps a b) positive) j
within_rising p eps a b j positive above below =
    let intercept = difference_times (p.y a) eps (p.x b - p.x a) in
    IsWithin-in p eps
    (rational (rising_line p eps a b) positive) j (omega (arith, ints, intercept)) (omega (arith, ints, intercept))

-- at a place right of a, the pair (a, j) is no less steep
above_right : (rise ya yb eps width gap xa xj yj : ℕ) → rise + ya ≡ yb + 2 * eps → xj ≡ xa + gap →
    (yb + 2 * eps) * gap + ya * width ≤ (yj + 2 * eps) * width + ya * gap →
    rise * xj + ya * width ≤ rise * xa + width * yj + 2 * (width * eps)
above_right rise ya yb eps width gap xa xj yj climbs right steeper =
    omega (arith, steeper, ap (λ (t : ℕ). t * gap) climbs, ap (λ (t : ℕ). rise * t) right)

-- at a place left of a, the pair (j, a) is no flatter
above_left : (rise ya yb eps width gap xa xj yj : ℕ) → rise + ya ≡ yb + 2 * eps → xa ≡ xj + gap →
    ya * width + ya * gap ≤ (yb + 2 * eps) * gap + (yj + 2 * eps) * width →
    rise * xj + ya * width ≤ rise * xa + width * yj + 2 * (width * eps)
above_left rise ya yb eps width gap xa xj yj climbs left flatter =
    omega (arith, flatter, ap (λ (t : ℕ). t * gap) climbs, ap (λ (t : ℕ). rise * t) left)

-- at a place left of b, the pair (j, b) is no less steep
below_left : (rise ya yb eps width gap xa xb xj yj : ℕ) → rise + ya ≡ yb + 2 * eps → xb ≡ xa + width → xb ≡ xj + gap →
    (yb + 2 * eps) * gap + yj * width ≤ (yb + 2 * eps) * width + ya * gap →
    rise * xa + width * yj ≤ rise * xj + ya * width
below_left rise ya yb eps width gap xa xb xj yj climbs spans left steeper =
    omega (
      arith,
      steeper,
      ap (λ (t : ℕ). t * gap) climbs,
      ap (λ (t : ℕ). t * width) climbs,
      ap (λ (t : ℕ). rise * t) spans,
      ap (λ (t : ℕ). rise * t) left,
    )

-- at a place right of b, the pair (b, j) is no flatter
below_right : (rise ya yb eps width gap xa xb xj yj : ℕ) → rise + ya ≡ yb + 2 * eps → xb ≡ xa + width → xj ≡ xb + gap →
    yj * width + ya * gap ≤ (yb + 2 * eps) * gap + (yb + 2 * eps) * width →
    rise * xa + width * yj ≤ rise * xj + ya * width
below_right rise ya yb eps width gap xa xb xj yj climbs spans right flatter =
    omega (
      arith,
      flatter,
      ap (λ (t : ℕ). t * gap) climbs,
      ap (λ (t : ℕ). t * width) climbs,
      ap (λ (t : ℕ). rise * t) spans,
      ap (λ (t : ℕ). rise * t) right,
    )

-- what a pair of places says of its coordinates
pub record IsWide (p : Points) (eps a b : ℕ) : Type 0 where
  pub positive : 0 < p.x b - p.x a
  pub spans : p.x b ≡ p.x a + (p.x b - p.x a)
  pub climbs : p.y b + 2 * eps - p.y a + p.y a ≡ p.y b + 2 * eps

pub IsWide-from_pair : (p : Points) (eps a b : ℕ) → IsAscending p → a < b → b < p.count → IsWide p eps a b
IsWide-from_pair p eps a b ascends rises inside =
    let right : p.x a < p.x b = ascends.x_rises a b rises inside in
    let up : p.y a ≤ p.y b = ascends.y_never_falls a b (omega arith) inside in
    record { positive = omega arith; spans = omega arith; climbs = omega arith }

-- the line of the pair is at most eps above each point of the run
rising_above : (p : Points) (eps s e a b j : ℕ) → IsAscending p → e ≤ p.count → IsSteepPair p eps s e a b →
    ((c d : ℕ) → IsPair s e c d → IsAtMost (flat_slope p eps c d) (steep_slope p eps a b)) →
    s ≤ j → j < e →
    (p.y b + 2 * eps - p.y a) * p.x j + p.y a * (p.x b - p.x a)
    ≤ (p.y b + 2 * eps - p.y a) * p.x a + (p.x b - p.x a) * p.y j + 2 * ((p.x b - p.x a) * eps)
rising_above p eps s e a b j ascends inside steep flat from to =
    let q = steep.pair in
    let pair : IsWide p eps a b = IsWide-from_pair p eps a b ascends (omega arith) (omega arith) in
    elim (cases_order j a) [
      | inl same ↦ let here : p.x j ≡ p.x a = ap p.x same in let level : p.y j ≡ p.y a = ap p.y same in
          rw (here, level) (omega arith)
      | inr (inl left) ↦
          let gap : IsWide p eps j a = IsWide-from_pair p eps j a ascends left (omega arith) in
          let flatter = products_le-out (p.y a) (p.y j + 2 * eps) (p.x b - p.x a) (p.y b + 2 * eps) (p.y a)
          (p.x a - p.x j) (flat j a (record { from_start = from; rises = left; to_end = omega arith })).at_most in
          above_left (p.y b + 2 * eps - p.y a)
          (p.y a) (p.y b) eps (p.x b - p.x a) (p.x a - p.x j) (p.x a) (p.x j) (p.y j) pair.climbs gap.spans flatter
      | inr (inr right) ↦
          let gap : IsWide p eps a j = IsWide-from_pair p eps a j ascends right (omega arith) in
          let steeper =
          products_le-out (p.y b + 2 * eps) (p.y a) (p.x j - p.x a) (p.y j + 2 * eps) (p.y a) (p.x b - p.x a)
          (steep.least a j (record { from_start = q.from_start; rises = right; to_end = to })).at_most in
          above_right (p.y b + 2 * eps - p.y a)
          (p.y a) (p.y b) eps (p.x b - p.x a) (p.x j - p.x a) (p.x a) (p.x j) (p.y j) pair.climbs gap.spans steeper
    ]

-- and at most eps below it
rising_below : (p : Points) (eps s e a b j : ℕ) → IsAscending p → e ≤ p.count → IsSteepPair p eps s e a b →
    ((c d : ℕ) → IsPair s e c d → IsAtMost (flat_slope p eps c d) (steep_slope p eps a b)) →
    s ≤ j → j < e →
    (p.y b + 2 * eps - p.y a) * p.x a + (p.x b - p.x a) * p.y j
    ≤ (p.y b + 2 * eps - p.y a) * p.x j + p.y a * (p.x b - p.x a)
rising_below p eps s e a b j ascends inside steep flat from to =
    let q = steep.pair in
    let pair : IsWide p eps a b = IsWide-from_pair p eps a b ascends (omega arith) (omega arith) in
    elim (cases_order j b) [
      | inl same ↦ let here : p.x j ≡ p.x b = ap p.x same in let level : p.y j ≡ p.y b = ap p.y same in
          rw (here, level)
          (omega (
            arith,
            ap (λ (t : ℕ). t * (p.x b - p.x a)) pair.climbs,
            ap (λ (t : ℕ). (p.y b + 2 * eps - p.y a) * t) pair.spans,
          ))
      | inr (inl left) ↦
          let gap : IsWide p eps j b = IsWide-from_pair p eps j b ascends left (omega arith) in
          let steeper =
          products_le-out (p.y b + 2 * eps) (p.y a) (p.x b - p.x j) (p.y b + 2 * eps) (p.y j) (p.x b - p.x a)
          (steep.least j b (record { from_start = from; rises = left; to_end = q.to_end })).at_most in
          below_left (p.y b + 2 * eps - p.y a) (p.y a) (p.y b) eps
          (p.x b - p.x a) (p.x b - p.x j) (p.x a) (p.x b) (p.x j) (p.y j) pair.climbs pair.spans gap.spans steeper
      | inr (inr right) ↦
          let gap : IsWide p eps b j = IsWide-from_pair p eps b j ascends right (omega arith) in
          let flatter = products_le-out (p.y j) (p.y b + 2 * eps) (p.x b - p.x a) (p.y b + 2 * eps) (p.y a)
          (p.x j - p.x b) (flat b j (record { from_start = omega arith; rises = right; to_end = to })).at_most in
          below_right (p.y b + 2 * eps - p.y a) (p.y a) (p.y b) eps
          (p.x b - p.x a) (p.x j - p.x b) (p.x a) (p.x b) (p.x j) (p.y j) pair.climbs pair.spans gap.spans flatter
    ]

pub rising_line_fits : (p : Points) (eps s e a b : ℕ) (positive : 0 < p.x b - p.x a) →
    IsAscending p → e ≤ p.count → IsSteepPair p eps s e a b →
    ((c d : ℕ) → IsPair s e c d → IsAtMost (flat_slope p eps c d) (steep_slope p eps a b)) →
    FitsRun p eps (rational (rising_line p eps a b) positive) s e
rising_line_fits p eps s e a b positive ascends inside steep flat = λ j from to.
    within_rising p eps a b j positive (rising_above p eps s e a b j ascends inside steep flat from to)
    (rising_below p eps s e a b j ascends inside steep flat from to)
