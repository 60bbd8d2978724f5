-- Heights beside a line, and which pair lies highest and lowest beside its own.
--
-- Main results: `IsSteepPair-from_extremes` and `SomeLineFits-from_extremes`.
-- With the height h of a place beside the line of
-- (a, b), the steep slope of a pair (c, d) is the less the lower d lies and the higher c, and h b - h a is -2 eps runs.
use Rattle.std.proofs.Common.{◌≡◌, ℕ, ◌+◌, ◌*◌, ◌-◌, ◌<◌, ◌≤◌, ◌⊎◌, ◌∙◌, inl, inr, ap, refl, None, arith}
use Rattle.std.proofs.Math.Nat.{mul-le-mul_left, mul-le-mul_right}
use Rattle.std.proofs.lemmas.Bool.{cases_order, cases_lt}
use Rattle.exact_cross.specs.declared.line.Line.{Line}
use Rattle.exact_cross.specs.Points.{Points, IsAscending}
use Rattle.exact_cross.specs.Lines.{SomeLineFits}
use Rattle.exact_cross.specs.Slopes.{IsAtMost, steep_slope, flat_slope}
use Rattle.exact_cross.specs.Steep.{IsPair, ComesFirst, IsSteepPair, line_of_pair}
use Rattle.exact_cross.proofs.CallerLemmas.{products_le-in, products_le-out, some_line-from_pairs, line_of_pair-rising}
use Rattle.segmenter.specs.declared.whole.Extremes.{Extremes}
use Rattle.segmenter.specs.Whole.{IsWhole, AreExtremes, IsBetween, height, height_of}

-- a point further right and no higher lies no higher beside a line that doesn't fall
pub height-falls : (rise run x y x' y' : ℕ) → x' ≤ x → y ≤ y' → height rise run x y ≤ height rise run x' y'
height-falls rise run x y x' y' right low =
    let less : 18446744073709551615 - x ≤ 18446744073709551615 - x' = omega arith in
    omega (arith, mul-le-mul_right run low, mul-le-mul_left rise less)

-- of points that rise all lie no higher than the first x with the last y, and no lower than the last x with the first y
pub IsBetween-from_ends : (p : Points) (from to : ℕ) (found : Extremes) → IsAscending p → to ≤ p.count →
    height found.line.rise found.line.run (p.x from) (p.y (to - 1)) < found.top_height →
    found.bottom_height < height found.line.rise found.line.run (p.x (to - 1)) (p.y from) → IsBetween p from to found
IsBetween-from_ends p from to found ascends inside below above = record {
  below = λ j start end. omega (
    arith,
    below,
    height-falls found.line.rise found.line.run (p.x j) (p.y j) (p.x from) (p.y (to - 1))
        (right p from j ascends start (omega arith)) (ascends.y_never_falls j (to - 1) (omega arith) (omega arith)),
  );
  above = λ j start end. omega (
    arith,
    above,
    height-falls found.line.rise found.line.run (p.x (to - 1)) (p.y from) (p.x j) (p.y j)
        (right p j (to - 1) ascends (omega arith) (omega arith)) (ascends.y_never_falls from j start (omega arith)),
  );
}
  where
    right : (p : Points) (i j : ℕ) → IsAscending p → i ≤ j → j < p.count → p.x i ≤ p.x j
    right p i j ascends from inside =
        elim (cases_lt i j) [
          | inl less ↦ omega (arith, ascends.x_rises i j less inside)
          | inr more ↦ let same : i ≡ j = omega arith in
              omega (arith, ap p.x same)
        ]

-- of the places s..e before `upto` the first of the highest, and the first of the lowest, unless these lie further on
record IsTop (p : Points) (s e upto : ℕ) (line : Line) (top top_height : ℕ) : Type 0 where
  from : s ≤ top
  to : top < e
  is : top_height ≡ height line.rise line.run (p.x top) (p.y top)
  highest : (j : ℕ) → s ≤ j → j < upto → height line.rise line.run (p.x j) (p.y j) ≤ top_height
  first : (j : ℕ) → s ≤ j → j < upto → j < top → height line.rise line.run (p.x j) (p.y j) < top_height

record IsBottom (p : Points) (s e upto : ℕ) (line : Line) (bottom bottom_height : ℕ) : Type 0 where
  from : s ≤ bottom
  to : bottom < e
  is : bottom_height ≡ height line.rise line.run (p.x bottom) (p.y bottom)
  lowest : (j : ℕ) → s ≤ j → j < upto → bottom_height ≤ height line.rise line.run (p.x j) (p.y j)
  first : (j : ℕ) → s ≤ j → j < upto → j < bottom → bottom_height < height line.rise line.run (p.x j) (p.y j)

-- the next place, or the one so far: which of them has the greater upper height, or the same and comes first
abbrev pub IsTaken : ℕ → ℕ → ℕ → ℕ → Type 0
IsTaken lower upper place other = (lower ≤ upper) × (lower ≡ upper → place < other)

abbrev pub IsLeft : ℕ → ℕ → ℕ → ℕ → Type 0
IsLeft lower upper place other = (upper ≤ lower) × (lower ≡ upper → other ≤ place)

-- of the places before the next one and it, one that isn't before is it
height-last : (p : Points) (line : Line) (place j : ℕ) → j < place + 1 →
    place ≤ j → height line.rise line.run (p.x j) (p.y j) ≡ height line.rise line.run (p.x place) (p.y place)
height-last p line place j to more =
    let same : j ≡ place = omega arith in ap (λ (k : ℕ). height line.rise line.run (p.x k) (p.y k)) same

IsTop-taken : (p : Points) (s e place : ℕ) (line : Line) (top top_height h : ℕ) →
    IsTop p s e place line top top_height → s ≤ place → place < e →
    h ≡ height line.rise line.run (p.x place) (p.y place) →
    IsTaken top_height h place top → IsTop p s e (place + 1) line place h
IsTop-taken p s e place line top top_height h so_far start end is taken = record {
  from = start;
  to = end;
  is = is;
  highest = λ j from to. elim (cases_lt j place) [
    | inl less ↦ omega (arith, so_far.highest j from less, taken.0)
    | inr more ↦ omega (arith, is, height-last p line place j to more)
  ];
  first = λ j from to before. elim (cases_lt top_height h) [
    | inl less ↦ omega (arith, so_far.highest j from before)
    | inr more ↦
        let same : top_height ≡ h = omega (arith, taken.0) in
        omega (arith, so_far.first j from before (omega (arith, taken.1 same)))
  ];
}

IsTop-left : (p : Points) (s e place : ℕ) (line : Line) (top top_height h : ℕ) → IsTop p s e place line top top_height →
    h ≡ height line.rise line.run (p.x place) (p.y place) →
    IsLeft top_height h place top → IsTop p s e (place + 1) line top top_height
IsTop-left p s e place line top top_height h so_far is kept = record {
  from = so_far.from;
  to = so_far.to;
  is = so_far.is;
  highest = λ j from to. elim (cases_lt j place) [
    | inl less ↦ so_far.highest j from less
    | inr more ↦ omega (arith, is, height-last p line place j to more, kept.0)
  ];
  first = λ j from to before. elim (cases_lt j place) [
    | inl less ↦ so_far.first j from less before
    | inr more ↦ elim (cases_lt h top_height) [
      | inl lower ↦ omega (arith, is, height-last p line place j to more)
      | inr as_high ↦ let same : top_height ≡ h = omega (arith, kept.0) in absurd (omega (arith, kept.1 same))
    ]
  ];
}

IsBottom-taken : (p : Points) (s e place : ℕ) (line : Line) (bottom bottom_height h : ℕ) →
    IsBottom p s e place line bottom bottom_height → s ≤ place → place < e →
    h ≡ height line.rise line.run (p.x place) (p.y place) →
    IsTaken h bottom_height place bottom → IsBottom p s e (place + 1) line place h
IsBottom-taken p s e place line bottom bottom_height h so_far start end is taken = record {
  from = start;
  to = end;
  is = is;
  lowest = λ j from to. elim (cases_lt j place) [
    | inl less ↦ omega (arith, so_far.lowest j from less, taken.0)
    | inr more ↦ omega (arith, is, height-last p line place j to more)
  ];
  first = λ j from to before. elim (cases_lt h bottom_height) [
    | inl less ↦ omega (arith, so_far.lowest j from before)
    | inr more ↦
        let same : h ≡ bottom_height = omega (arith, taken.0) in
        omega (arith, so_far.first j from before (omega (arith, taken.1 same)))
  ];
}

IsBottom-left : (p : Points) (s e place : ℕ) (line : Line) (bottom bottom_height h : ℕ) →
    IsBottom p s e place line bottom bottom_height →
    h ≡ height line.rise line.run (p.x place) (p.y place) →
    IsLeft h bottom_height place bottom → IsBottom p s e (place + 1) line bottom bottom_height
IsBottom-left p s e place line bottom bottom_height h so_far is kept = record {
  from = so_far.from;
  to = so_far.to;
  is = so_far.is;
  lowest = λ j from to. elim (cases_lt j place) [
    | inl less ↦ so_far.lowest j from less
    | inr more ↦ omega (arith, is, height-last p line place j to more, kept.0)
  ];
  first = λ j from to before. elim (cases_lt j place) [
    | inl less ↦ so_far.first j from less before
    | inr more ↦ elim (cases_lt bottom_height h) [
      | inl higher ↦ omega (arith, is, height-last p line place j to more)
      | inr as_low ↦ let same : h ≡ bottom_height = omega (arith, kept.0) in absurd (omega (arith, kept.1 same))
    ]
  ];
}

-- the extremes after the next place, each of which it took or left
pub AreExtremes-looked : (p : Points) (s e place h : ℕ) (found next : Extremes) →
    AreExtremes p s e place found → s ≤ place → place < e →
    h ≡ height_of p found place → next.line ≡ found.line →
    ((next.top ≡ place) × (next.top_height ≡ h) × IsTaken found.top_height h place found.top) ⊎
    ((next.top ≡ found.top) × (next.top_height ≡ found.top_height) × IsLeft found.top_height h place found.top) →
    ((next.bottom ≡ place) × (next.bottom_height ≡ h) × IsTaken h found.bottom_height place found.bottom) ⊎
    ((next.bottom ≡ found.bottom)
    × (next.bottom_height ≡ found.bottom_height) × IsLeft h found.bottom_height place found.bottom) →
    AreExtremes p s e (place + 1) next
AreExtremes-looked p s e place h found next so_far start end is line top bottom =
    let old_top : IsTop p s e place found.line found.top found.top_height =
    record {
      from = so_far.top_from;
      to = so_far.top_to;
      is = so_far.top_is;
      highest = so_far.highest;
      first = so_far.first_top;
    } in
    let old_bottom : IsBottom p s e place found.line found.bottom found.bottom_height =
    record {
      from = so_far.bottom_from;
      to = so_far.bottom_to;
      is = so_far.bottom_is;
      lowest = so_far.lowest;
      first = so_far.first_bottom;
    } in
    let new_top : IsTop p s e (place + 1) next.line next.top next.top_height = elim top [
      | inl taken ↦ rw (line, taken.0, taken.1)
          (IsTop-taken p s e place found.line found.top found.top_height h old_top start end is taken.2)
      | inr kept ↦
          rw (line, kept.0, kept.1) (IsTop-left p s e place found.line found.top found.top_height h old_top is kept.2)
    ] in
    let new_bottom : IsBottom p s e (place + 1) next.line next.bottom next.bottom_height = elim bottom [
      | inl taken ↦ rw (line, taken.0, taken.1)
          (IsBottom-taken p s e place found.line found.bottom found.bottom_height h old_bottom start end is taken.2)
      | inr kept ↦ rw (line, kept.0, kept.1)
          (IsBottom-left p s e place found.line found.bottom found.bottom_height h old_bottom is kept.2)
    ] in
    record {
      top_from = new_top.from;
      top_to = new_top.to;
      top_is = new_top.is;
      highest = new_top.highest;
      first_top = new_top.first;
      bottom_from = new_bottom.from;
      bottom_to = new_bottom.to;
      bottom_is = new_bottom.is;
      lowest = new_bottom.lowest;
      first_bottom = new_bottom.first;
    }

-- how high the place j lies beside the line of (a, b)
abbrev right_of : Points → ℕ → ℕ
right_of p j = 18446744073709551615 - p.x j

abbrev beside : Points → ℕ → ℕ → ℕ → ℕ → ℕ
beside p eps a b j = p.y j * (p.x b - p.x a) + (p.y b + 2 * eps - p.y a) * right_of p j

-- beside the line of (a, b) the place a is the first of the highest, and b the first of the lowest
record AreHighLow (p : Points) (eps s e a b : ℕ) : Type 0 where
  from_start : s ≤ a
  rises : a < b
  to_end : b < e
  climbs : p.y b + 2 * eps - p.y a + p.y a ≡ p.y b + 2 * eps
  spans : right_of p a ≡ right_of p b + (p.x b - p.x a)
  highest : (j : ℕ) → s ≤ j → j < e → beside p eps a b j ≤ beside p eps a b a
  first_highest : (j : ℕ) → s ≤ j → j < a → beside p eps a b j < beside p eps a b a
  lowest : (j : ℕ) → s ≤ j → j < e → beside p eps a b b ≤ beside p eps a b j
  first_lowest : (j : ℕ) → s ≤ j → j < b → beside p eps a b b < beside p eps a b j

AreHighLow-from_extremes : (p : Points) (eps s e : ℕ) (found : Extremes) → IsAscending p → e ≤ p.count →
    ((j : ℕ) → j < p.count → p.x j ≤ 18446744073709551615) →
    found.line ≡ line_of_pair p eps found.top found.bottom → found.top < found.bottom → AreExtremes p s e e found →
    AreHighLow p eps s e found.top found.bottom
AreHighLow-from_extremes p eps s e found ascends inside fits_x own rises h =
    let a = found.top in
    let b = found.bottom in
    let line = own ∙ line_of_pair-rising p eps a b rises in
    let same : (j : ℕ) → height_of p found j
    ≡ beside p eps a b j = λ j. ap (λ (l : Line). height l.rise l.run (p.x j) (p.y j)) line in
    let right : p.x a < p.x b = ascends.x_rises a b rises (omega (arith, h.bottom_to)) in
    let up : p.y a ≤ p.y b = ascends.y_never_falls a b (omega arith) (omega (arith, h.bottom_to)) in
    let small : p.x b ≤ 18446744073709551615 = fits_x b (omega (arith, h.bottom_to)) in
    record {
      from_start = h.top_from;
      rises = rises;
      to_end = h.bottom_to;
      climbs = omega arith;
      spans = omega arith;
      highest = λ j from to. omega (arith, h.highest j from to, h.top_is, same j, same a);
      first_highest =
          λ j from before. omega (arith, h.first_top j from (omega (arith, h.top_to)) before, h.top_is, same j, same a);
      lowest = λ j from to. omega (arith, h.lowest j from to, h.bottom_is, same j, same b);
      first_lowest = λ j from before.
          omega (arith, h.first_bottom j from (omega (arith, h.bottom_to)) before, h.bottom_is, same j, same b);
    }

-- where d lies no lower than b and c no higher than a, the pair (c, d) is no less steep
steeper : (rise run gap eps ya yb yc yd ra rb rc rd : ℕ) → rise + ya ≡ yb + 2 * eps → ra ≡ rb + run → rc ≡ rd + gap →
    yb * run + rise * rb ≤ yd * run + rise * rd → yc * run + rise * rc ≤ ya * run + rise * ra →
    (yb + 2 * eps) * gap + yc * run ≤ (yd + 2 * eps) * run + ya * gap
steeper rise run gap eps ya yb yc yd ra rb rc rd climbs spans apart low high =
    omega (
      arith,
      low,
      high,
      ap (λ (t : ℕ). t * gap) climbs,
      ap (λ (t : ℕ). t * run) climbs,
      ap (λ (t : ℕ). rise * t) spans,
      ap (λ (t : ℕ). rise * t) apart,
    )

-- where c lies no higher than a and the pair (c, d) is no steeper, d lies no higher than b
low_end : (rise run gap eps ya yb yc yd ra rb rc rd : ℕ) → rise + ya ≡ yb + 2 * eps → ra ≡ rb + run → rc ≡ rd + gap →
    yc * run + rise * rc ≤ ya * run + rise * ra → (yd + 2 * eps) * run + ya * gap ≤ (yb + 2 * eps) * gap + yc * run →
    yd * run + rise * rd ≤ yb * run + rise * rb
low_end rise run gap eps ya yb yc yd ra rb rc rd climbs spans apart high steep =
    omega (
      arith,
      high,
      steep,
      ap (λ (t : ℕ). t * gap) climbs,
      ap (λ (t : ℕ). t * run) climbs,
      ap (λ (t : ℕ). rise * t) spans,
      ap (λ (t : ℕ). rise * t) apart,
    )

-- where d lies no lower than b and the pair (c, d) is no steeper, c lies no lower than a
high_start : (rise run gap eps ya yb yc yd ra rb rc rd : ℕ) → rise + ya ≡ yb + 2 * eps → ra ≡ rb + run → rc ≡ rd + gap →
    yb * run + rise * rb ≤ yd * run + rise * rd → (yd + 2 * eps) * run + ya * gap ≤ (yb + 2 * eps) * gap + yc * run →
    ya * run + rise * ra ≤ yc * run + rise * rc
high_start rise run gap eps ya yb yc yd ra rb rc rd climbs spans apart low steep =
    omega (
      arith,
      low,
      steep,
      ap (λ (t : ℕ). t * gap) climbs,
      ap (λ (t : ℕ). t * run) climbs,
      ap (λ (t : ℕ). rise * t) spans,
      ap (λ (t : ℕ). rise * t) apart,
    )

-- where d lies no higher than a and c no lower than b, the flat
-- slope of (c, d) is no greater than the steep one of (a, b)
flatter : (rise run gap eps ya yb yc yd ra rb rc rd : ℕ) → rise + ya ≡ yb + 2 * eps → ra ≡ rb + run → rc ≡ rd + gap →
    yd * run + rise * rd ≤ ya * run + rise * ra → yb * run + rise * rb ≤ yc * run + rise * rc →
    yd * run + ya * gap ≤ (yb + 2 * eps) * gap + (yc + 2 * eps) * run
flatter rise run gap eps ya yb yc yd ra rb rc rd climbs spans apart high low =
    omega (
      arith,
      high,
      low,
      ap (λ (t : ℕ). t * gap) climbs,
      ap (λ (t : ℕ). t * run) climbs,
      ap (λ (t : ℕ). rise * t) spans,
      ap (λ (t : ℕ). rise * t) apart,
    )

-- how far the places of a pair are apart
apart : (p : Points) (c d : ℕ) →
    IsAscending p → ((j : ℕ) → j < p.count → p.x j ≤ 18446744073709551615) → c < d → d < p.count →
    right_of p c ≡ right_of p d + (p.x d - p.x c)
apart p c d ascends fits_x rises inside =
    let right : p.x c < p.x d = ascends.x_rises c d rises inside in
    let small : p.x d ≤ 18446744073709551615 = fits_x d inside in
    omega arith

IsAtMost-high_low : (p : Points) (eps s e a b c d : ℕ) →
    IsAscending p → e ≤ p.count → ((j : ℕ) → j < p.count → p.x j ≤ 18446744073709551615) →
    AreHighLow p eps s e a b → IsPair s e c d → IsAtMost (steep_slope p eps a b) (steep_slope p eps c d)
IsAtMost-high_low p eps s e a b c d ascends inside fits_x h pair =
    let far = apart p c d ascends fits_x pair.rises (omega (arith, pair.to_end)) in
    record {
      at_most = products_le-in (p.y b + 2 * eps) (p.y a) (p.x d - p.x c) (p.y d + 2 * eps) (p.y c) (p.x b - p.x a)
          (steeper (p.y b + 2 * eps - p.y a) (p.x b - p.x a) (p.x d - p.x c) eps (p.y a) (p.y b) (p.y c) (p.y d)
          (right_of p a) (right_of p b) (right_of p c) (right_of p d) h.climbs h.spans far
          (h.lowest d (omega (arith, pair.from_start, pair.rises)) pair.to_end)
          (h.highest c pair.from_start (omega (arith, pair.rises, pair.to_end))));
    }

ComesFirst-high_low : (p : Points) (eps s e a b c d : ℕ) →
    IsAscending p → e ≤ p.count → ((j : ℕ) → j < p.count → p.x j ≤ 18446744073709551615) →
    AreHighLow p eps s e a b →
    IsPair s e c d → IsAtMost (steep_slope p eps c d) (steep_slope p eps a b) → ComesFirst a b c d
ComesFirst-high_low p eps s e a b c d ascends inside fits_x h pair no_steeper =
    let far = apart p c d ascends fits_x pair.rises (omega (arith, pair.to_end)) in
    let sums = products_le-out
    (p.y d + 2 * eps) (p.y c) (p.x b - p.x a) (p.y b + 2 * eps) (p.y a) (p.x d - p.x c) no_steeper.at_most in
    let low = low_end (p.y b + 2 * eps - p.y a) (p.x b - p.x a) (p.x d - p.x c) eps (p.y a) (p.y b) (p.y c) (p.y d)
    (right_of p a) (right_of p b) (right_of p c) (right_of p d) h.climbs h.spans far
    (h.highest c pair.from_start (omega (arith, pair.rises, pair.to_end))) sums in
    let high = high_start (p.y b + 2 * eps - p.y a) (p.x b - p.x a) (p.x d - p.x c) eps (p.y a) (p.y b) (p.y c) (p.y d)
    (right_of p a) (right_of p b) (right_of p c) (right_of p d) h.climbs h.spans far
    (h.lowest d (omega (arith, pair.from_start, pair.rises)) pair.to_end) sums in
    elim (cases_order b d) [
      | inl same ↦
          inr (
            same,
            elim (cases_lt c a) [
              | inl before ↦ absurd (omega (arith, high, h.first_highest c pair.from_start before))
              | inr from ↦ from
            ],
          )
      | inr (inl before) ↦ inl before
      | inr (inr behind) ↦
          absurd (omega (arith, low, h.first_lowest d (omega (arith, pair.from_start, pair.rises)) behind))
    ]

IsSteepPair-high_low : (p : Points) (eps s e a b : ℕ) →
    IsAscending p → e ≤ p.count → ((j : ℕ) → j < p.count → p.x j ≤ 18446744073709551615) →
    AreHighLow p eps s e a b → IsSteepPair p eps s e a b
IsSteepPair-high_low p eps s e a b ascends inside fits_x h = record {
  pair = record { from_start = h.from_start; rises = h.rises; to_end = h.to_end };
  least = λ c d pair. IsAtMost-high_low p eps s e a b c d ascends inside fits_x h pair;
  first = λ c d pair no_steeper. ComesFirst-high_low p eps s e a b c d ascends inside fits_x h pair no_steeper;
}

flat-high_low : (p : Points) (eps s e a b c d : ℕ) →
    IsAscending p → e ≤ p.count → ((j : ℕ) → j < p.count → p.x j ≤ 18446744073709551615) →
    AreHighLow p eps s e a b → IsPair s e c d → IsAtMost (flat_slope p eps c d) (steep_slope p eps a b)
flat-high_low p eps s e a b c d ascends inside fits_x h pair =
    let far = apart p c d ascends fits_x pair.rises (omega (arith, pair.to_end)) in
    record {
      at_most = products_le-in (p.y d) (p.y c + 2 * eps) (p.x b - p.x a) (p.y b + 2 * eps) (p.y a) (p.x d - p.x c)
          (flatter (p.y b + 2 * eps - p.y a) (p.x b - p.x a) (p.x d - p.x c) eps (p.y a) (p.y b) (p.y c) (p.y d)
          (right_of p a) (right_of p b) (right_of p c) (right_of p d) h.climbs h.spans far
          (h.highest d (omega (arith, pair.from_start, pair.rises)) pair.to_end)
          (h.lowest c pair.from_start (omega (arith, pair.rises, pair.to_end))));
    }

-- the highest and the lowest place beside their own line are the steep pair, and some line fits
pub IsSteepPair-from_extremes : (p : Points) (eps s e : ℕ) (found : Extremes) → IsAscending p → e ≤ p.count →
    ((j : ℕ) → j < p.count → p.x j ≤ 18446744073709551615) →
    found.line ≡ line_of_pair p eps found.top found.bottom → found.top < found.bottom → AreExtremes p s e e found →
    IsSteepPair p eps s e found.top found.bottom
IsSteepPair-from_extremes p eps s e found ascends inside fits_x own rises h =
    IsSteepPair-high_low p eps s e found.top found.bottom ascends inside fits_x
    (AreHighLow-from_extremes p eps s e found ascends inside fits_x own rises h)

pub SomeLineFits-from_extremes : (p : Points) (eps s e : ℕ) (found : Extremes) → IsAscending p → e ≤ p.count →
    ((j : ℕ) → j < p.count → p.x j ≤ 18446744073709551615) →
    found.line ≡ line_of_pair p eps found.top found.bottom → found.top < found.bottom → AreExtremes p s e e found →
    SomeLineFits p eps s e
SomeLineFits-from_extremes p eps s e found ascends inside fits_x own rises h =
    let high_low = AreHighLow-from_extremes p eps s e found ascends inside fits_x own rises h in
    some_line-from_pairs p eps s e found.top found.bottom ascends inside
    (IsSteepPair-high_low p eps s e found.top found.bottom ascends inside fits_x high_low)
    (λ c d pair. flat-high_low p eps s e found.top found.bottom c d ascends inside fits_x high_low pair)

-- they are the one segment of all places
pub IsWhole-from_extremes : (p : Points) (eps s e a b : ℕ) (found : Extremes) → IsAscending p → e ≤ p.count →
    ((j : ℕ) → j < p.count → p.x j ≤ 18446744073709551615) →
    found.line ≡ line_of_pair p eps a b → found.top ≡ a → found.bottom ≡ b → a < b → AreExtremes p s e e found →
    IsWhole p eps s e (record { start = s; a = a; b = b; line = found.line; cut = None })
IsWhole-from_extremes p eps s e a b found ascends inside fits_x own top bottom rises h =
    let line : found.line ≡ line_of_pair p eps found.top found.bottom = rw (top, bottom) own in
    let up : found.top < found.bottom = omega arith in
    let pair : IsSteepPair p eps s e a b =
    rw (top, bottom) at (IsSteepPair-from_extremes p eps s e found ascends inside fits_x line up h) in
    record {
      some = omega (arith, h.top_from, h.top_to);
      start = refl;
      no_cut = refl;
      steep = record {
        pair = record {
          alone = λ one. absurd
              (omega (arith, one, pair.pair.from_start, pair.pair.rises, pair.pair.to_end));
          steep = λ more. pair;
        };
        line = own;
      };
      fits = SomeLineFits-from_extremes p eps s e found ascends inside fits_x line up h;
    }
