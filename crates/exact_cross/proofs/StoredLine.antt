-- The line of a segment's pair fits its run, if any line does.
--
-- Main results: `some_line-from_pairs` (no flat slope above the
-- steep pair's: its line fits) and `IsFitted-from_steep` (the line
-- as it is stored). The stored line is the steep pair's, or the level one of a single place.
use Rattle.std.proofs.Common.{◌≡◌, ◌==◌, ℕ, ◌+◌, ◌<◌, ◌≤◌, ◌∙◌, inl, inr, pos, ap, sym, subst, arith}
use Rattle.std.proofs.lemmas.Int.{ints}
use Rattle.std.proofs.lemmas.Bool.{cases_lt, ne_eqb, eq-eqb, cond-false, cond-true}
use Rattle.exact_cross.specs.declared.line.Line.{Line}
use Rattle.exact_cross.specs.declared.segment.Segment.{Segment}
use Rattle.exact_cross.specs.Points.{Points, IsAscending}
use Rattle.exact_cross.specs.Lines.{FitsRun, SomeLineFits, rational}
use Rattle.exact_cross.specs.Slopes.{IsAtMost, steep_slope, flat_slope}
use Rattle.exact_cross.specs.Steep.{IsPair, IsSteepPair, IsSteepOf, line_of_pair}
use Rattle.exact_cross.specs.Segments.{IsSteepSegment, IsFitted}
use Rattle.exact_cross.proofs.Cleared.{IsWithin-in}
use Rattle.exact_cross.proofs.SteepLine.{IsWide, IsWide-from_pair, rising_line, rising_line_fits}
use Rattle.exact_cross.proofs.LineSlopes.{flat_at_most_steep}

-- the level line through one point
abbrev pub level_line : Points → ℕ → Line
level_line p a = record { x0 = p.x a; y0 = pos (p.y a); rise = 0; run = 1 }

level_line_fits : (p : Points) (eps s : ℕ) (positive : 0 < 1) →
    FitsRun p eps (rational (level_line p s) positive) s (s + 1)
level_line_fits p eps s positive = λ j from to.
    let here : p.y j ≡ p.y s = ap p.y (one_place s j from to) in
    IsWithin-in p eps (rational (level_line p s) positive) j (omega (arith, ints)) (omega (arith, ints))
  where
    one_place : (s j : ℕ) → s ≤ j → j < s + 1 → j ≡ s
    one_place s j from to = omega arith

-- the line of a pair, by the two cases of its definition
pub line_of_pair-level : (p : Points) (eps a b : ℕ) → a ≡ b → line_of_pair p eps a b ≡ level_line p a
line_of_pair-level p eps a b same = cond-true (a == b) _ _ (eq-eqb a b same)

pub line_of_pair-rising : (p : Points) (eps a b : ℕ) → a < b → line_of_pair p eps a b ≡ rising_line p eps a b
line_of_pair-rising p eps a b rises = cond-false (a == b) _ _ (ne_eqb a b (λ same. omega arith))

-- one place, and two places or more
pub some_line-one_place : (p : Points) (eps s : ℕ) → SomeLineFits p eps s (s + 1)
some_line-one_place p eps s =
    let positive : 0 < 1 = omega arith in (rational (level_line p s) positive, level_line_fits p eps s positive)

pub some_line-from_pairs : (p : Points) (eps s e a b : ℕ) → IsAscending p → e ≤ p.count → IsSteepPair p eps s e a b →
    ((c d : ℕ) → IsPair s e c d → IsAtMost (flat_slope p eps c d) (steep_slope p eps a b)) → SomeLineFits p eps s e
some_line-from_pairs p eps s e a b ascends inside steep flat =
    let pair = steep.pair in
    let wide : IsWide p eps a b = IsWide-from_pair p eps a b ascends pair.rises (omega arith) in (
      rational (rising_line p eps a b) wide.positive,
      rising_line_fits p eps s e a b wide.positive ascends inside steep flat,
    )

-- what a line says is said of each line equal to it
FitsRun-equal : (p : Points) (eps s e : ℕ) (line line' : Line) →
    line' ≡ line → ((positive : 0 < line.run) → FitsRun p eps (rational line positive) s e) →
    (positive : 0 < line'.run) → FitsRun p eps (rational line' positive) s e
FitsRun-equal p eps s e line line' same fits =
    subst (λ (l : Line). (positive : 0 < l.run) → FitsRun p eps (rational l positive) s e) (sym same) fits

-- the steep pair's line, for one place and for more
steep_line_fits : (p : Points) (eps s e a b : ℕ) →
    IsAscending p → s < e → e ≤ p.count → IsSteepOf p eps s e a b → SomeLineFits p eps s e →
    (positive : 0 < (line_of_pair p eps a b).run) → FitsRun p eps (rational (line_of_pair p eps a b) positive) s e
steep_line_fits p eps s e a b ascends some inside steep fits =
    elim (cases_lt (s + 1) e) [
      | inl more ↦
          let pair = steep.steep more in
          FitsRun-equal p eps s e
          (rising_line p eps a b) (line_of_pair p eps a b) (line_of_pair-rising p eps a b pair.pair.rises)
          (λ positive. rising_line_fits p eps s e a b positive ascends inside pair
          (λ c d other. flat_at_most_steep p eps s e c d a b ascends inside fits other pair.pair))
      | inr one ↦
          let alone = steep.alone (omega arith) in
          FitsRun-equal p eps s e (level_line p s) (line_of_pair p eps a b)
          (line_of_pair-level p eps a b (alone.0 ∙ sym alone.1) ∙ ap (level_line p) alone.0)
          (λ positive. λ j from to. level_line_fits p eps s positive j from (omega arith))
    ]

-- its run is positive
pub line_of_pair-positive : (p : Points) (eps s e a b : ℕ) →
    IsAscending p → s < e → e ≤ p.count → IsSteepOf p eps s e a b → 0 < (line_of_pair p eps a b).run
line_of_pair-positive p eps s e a b ascends some inside steep =
    elim (cases_lt (s + 1) e) [
      | inl more ↦
          let pair = (steep.steep more).pair in
          let wide : IsWide p eps a b = IsWide-from_pair p eps a b ascends pair.rises (omega arith) in
          rw (line_of_pair-rising p eps a b pair.rises) wide.positive
      | inr one ↦
          let alone = steep.alone (omega arith) in
          rw (line_of_pair-level p eps a b (alone.0 ∙ sym alone.1)) (omega arith)
    ]

pub segment_line_fits : (p : Points) (eps e : ℕ) (segment : Segment) → IsAscending p → segment.start < e → e ≤ p.count →
    IsSteepSegment p eps segment e → SomeLineFits p eps segment.start e →
    (positive : 0 < segment.line.run) → FitsRun p eps (rational segment.line positive) segment.start e
segment_line_fits p eps e segment ascends some inside steep fits =
    FitsRun-equal p eps segment.start e (line_of_pair p eps segment.a segment.b) segment.line steep.line
    (steep_line_fits p eps segment.start e segment.a segment.b ascends some inside steep.pair fits)

pub IsFitted-from_steep : (p : Points) (eps e : ℕ) (segment : Segment) →
    IsAscending p → segment.start < e → e ≤ p.count →
    IsSteepSegment p eps segment e → SomeLineFits p eps segment.start e → IsFitted p eps segment e
IsFitted-from_steep p eps e segment ascends some inside steep fits = record {
  positive = subst (λ (line : Line). 0 < line.run)
      (sym steep.line) (line_of_pair-positive p eps segment.start e segment.a segment.b ascends some inside steep.pair);
  fits = segment_line_fits p eps e segment ascends some inside steep fits _;
}
