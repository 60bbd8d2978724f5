-- What the tests of a new point against the two lines say of the run with that point.
use Rattle.std.proofs.Common.{◌≡◌, ◌||◌, Bool, true, false, ℕ, ◌+◌, ◌*◌, ◌-◌, ◌^◌, ◌<◌}
use Rattle.std.proofs.Common.{◌≤◌, ◌∙◌, pos, ◌-ℤ◌, inl, inr, ap, subst, sym, arith}
use Rattle.std.specs.Bool.{OnFalse}
use Rattle.std.proofs.lemmas.Int.{ints}
use Rattle.std.proofs.lemmas.Bool.{cases_lt}
use borrow.Author.Differences.{up, down}
use Rattle.exact_cross.specs.declared.segment.Side.TheVariants.{Over, Under}
use Rattle.exact_cross.specs.declared.segment.Witness.{Witness}
use Rattle.exact_cross.specs.Points.{Points, IsAscending}
use Rattle.exact_cross.specs.Lines.{RationalLine, IsWithin, SomeLineFits}
use Rattle.exact_cross.specs.declared.slope.Slope.{Slope}
use Rattle.exact_cross.specs.Slopes.{IsAtMost, steep_slope, flat_slope}
use Rattle.exact_cross.specs.Steep.{IsSteepPair, IsFlatPair}
use Rattle.exact_cross.specs.Witnesses.{IsOver, IsUnder}
use Rattle.exact_cross.specs.Cuts.{IsCutOf}
use Rattle.exact_cross.proofs.CallerLemmas.{IsAtMost-out, IsAtMost-in, IsOver-in, IsUnder-in, IsOver-no_line}
use Rattle.exact_cross.proofs.CallerLemmas.{IsUnder-no_line, sides_exclude, flat_at_most_steep}
use Rattle.exact_cross.proofs.CallerLemmas.{some_line-longer, some_line-two_places, some_line-one_place}
use Rattle.hulls.specs.declared.hull.Hull.{Hull}
use Rattle.hulls.specs.declared.fitting.Hulls.{Hulls}
use Rattle.hulls.specs.Slopes.{steepest}
use Rattle.hulls.specs.Hull.{IsUnderLine, IsHullOf, IsHullUpTo, IsFittable, IsShadowed}
use Rattle.hulls.specs.Hull.{IsPassed, AreSpanned, IsNextVertex, RiseRight, lower_of, last_of}
use Rattle.hulls.specs.Hulls.{StandsFor, IsNext, IsAhead, mirrored}
use Rattle.hulls.proofs.RaisedSlopes.{under-out, under-in, on_own_line}
use Rattle.hulls.proofs.PairSteps.{lower_place}
use Rattle.hulls.proofs.Stretches.{Parts-even, chord-even, AreEven-mirrored}
use Rattle.hulls.proofs.Stretches.{within-between, IsPassed-next, IsPassed-even}
use Rattle.hulls.proofs.Mirrored.{RiseRight-ascending, RiseRight-mirrored, IsFlatPair-from_mirrored, flat-from_mirrored}
use Rattle.hulls.proofs.Mirrored.{mirrored_flat-from_steep, steep-from_mirrored, mirrored-from_steep}

-- a run's next place is one that lies ahead
pub IsAhead-next : (hulls : Hulls) (p : Points) (eps s e x y : ℕ) →
    IsNext hulls p eps s e x y → IsAhead hulls p eps s e e x y
IsAhead-next hulls p eps s e x y next = record {
  stands = next.stands;
  order = omega arith;
  even = λ further. absurd (omega arith);
  more = next.more;
  at_x = next.at_x;
  at_y = next.at_y;
}

-- the point as a vertex, and upside down
pub IsNextVertex-steep : (hulls : Hulls) (p : Points) (eps s e m x y place : ℕ) →
    y < 2 ^ 32 → place ≡ m → IsAhead hulls p eps s e m x y →
    IsNextVertex p m (record { x = x; height = y; place = place })
IsNextVertex-steep hulls p eps s e m x y place low here ahead = record {
  right = RiseRight-ascending p ahead.stands.ascends;
  place = here;
  point =
      record {
        inside = omega (arith, here, ahead.more);
        x = sym (ap p.x here ∙ ahead.at_x);
        height = sym (ap p.y here ∙ ahead.at_y);
      };
  low = low;
}

pub IsNextVertex-flat : (hulls : Hulls) (p : Points) (eps s e m x y place : ℕ) →
    place ≡ m → IsAhead hulls p eps s e m x y →
    IsNextVertex (mirrored p) m (record { x = x; height = 4294967295 - y; place = place })
IsNextVertex-flat hulls p eps s e m x y place here ahead = record {
  right = RiseRight-mirrored p ahead.stands.ascends;
  place = here;
  point =
      record {
        inside = omega (arith, here, ahead.more);
        x = sym (ap p.x here ∙ ahead.at_x);
        height = ap (λ (t : ℕ). 4294967295 - t) (sym (ap p.y here ∙ ahead.at_y));
      };
  low = omega arith;
}

-- a difference of naturals, times a natural
scaled : (m n r : ℕ) → up (pos m -ℤ pos n) * r + n * r ≡ down (pos m -ℤ pos n) * r + m * r
scaled m n r =
    let plain : up (pos m -ℤ pos n) + n ≡ down (pos m -ℤ pos n) + m = omega (arith, ints) in
    omega (arith, ap (λ (t : ℕ). t * r) plain)

-- under the line of the pair (a, b) lies a point to which the flat slope from b is at most the pair's
pub flat-from_under : (q : Points) (eps a b e : ℕ) →
    q.x a ≤ q.x b → q.x b ≤ q.x e → IsUnderLine q a (steep_slope q eps a b) e →
    IsAtMost (flat_slope q eps b e) (steep_slope q eps a b)
flat-from_under q eps a b e left right under =
    let m = steep_slope q eps a b in
    let spans : q.x e ≡ q.x b + (q.x e - q.x b) = omega arith in
    IsAtMost-in (flat_slope q eps b e) m (omega (
      arith,
      under-out q a m e under,
      on_own_line q eps a b left,
      scaled (q.y e) (q.y b + 2 * eps) (q.x b - q.x a),
      ap (λ (t : ℕ). up m.rise * t) spans,
      ap (λ (t : ℕ). down m.rise * t) spans,
    ))

pub under-from_flat : (q : Points) (eps a b e : ℕ) →
    q.x a ≤ q.x b → q.x b ≤ q.x e → IsAtMost (flat_slope q eps b e) (steep_slope q eps a b) →
    IsUnderLine q a (steep_slope q eps a b) e
under-from_flat q eps a b e left right most =
    let m = steep_slope q eps a b in
    let spans : q.x e ≡ q.x b + (q.x e - q.x b) = omega arith in
    under-in q a m e (omega (
      arith,
      IsAtMost-out (flat_slope q eps b e) m most,
      on_own_line q eps a b left,
      scaled (q.y e) (q.y b + 2 * eps) (q.x b - q.x a),
      ap (λ (t : ℕ). up m.rise * t) spans,
      ap (λ (t : ℕ). down m.rise * t) spans,
    ))

-- the second point of a run lies under the line of the first alone
second_under : (q : Points) (a e : ℕ) → q.x a < q.x e → q.y e < 2 ^ 32 → IsUnderLine q a steepest e
second_under q a e right low = under-in q a steepest e (omega (arith, low))

-- a point over the line of a run's pair is its third or a later one
several : (q : Points) (eps s e m : ℕ) (hull : Hull) →
    RiseRight q → e ≤ m → m < q.count → q.y m < 2 ^ 32 → IsHullOf q eps s e hull →
    (IsUnderLine q (lower_of hull) hull.slope.slope m → ⊥) → s + 1 < e
several q eps s e m hull right further inside low is over = elim (cases_lt (s + 1) e) [
  | inl more ↦ more
  | inr one ↦
      let lower = lower_place q eps s e (lower_of hull) hull.upper hull.slope.slope is.pair in
      absurd (over (rw (is.pair.one (omega (arith, is.pair.some)))
      (second_under q (lower_of hull) m (right.rises (lower_of hull) m (omega (arith, lower.1)) inside) low)))
]

-- the gaps from the pair's lower place to its upper one and on to the point
pair_left : (q : Points) (eps s e m : ℕ) (hull : Hull) →
    RiseRight q → e ≤ m → m < q.count → IsHullOf q eps s e hull → s + 1 < e → q.x (lower_of hull) ≤ q.x hull.upper
pair_left q eps s e m hull right further inside is more =
    let pair = (is.pair.pair.steep more).pair in
    let less : q.x (lower_of hull) < q.x hull.upper =
    right.rises (lower_of hull) hull.upper pair.rises (omega (arith, pair.to_end)) in omega arith

pair_right : (q : Points) (eps s e m : ℕ) (hull : Hull) →
    RiseRight q → e ≤ m → m < q.count → IsHullOf q eps s e hull → s + 1 < e → q.x hull.upper ≤ q.x m
pair_right q eps s e m hull right further inside is more =
    let pair = (is.pair.pair.steep more).pair in
    let less : q.x hull.upper < q.x m = right.rises hull.upper m (omega (arith, pair.to_end)) inside in omega arith

-- the test against the steep line, by the slopes
over-not : (q : Points) (eps s e m : ℕ) (hull : Hull) →
    RiseRight q → e ≤ m → m < q.count → IsHullOf q eps s e hull → s + 1 < e →
    (IsUnderLine q (lower_of hull) hull.slope.slope m → ⊥) →
    IsAtMost (flat_slope q eps hull.upper m) (steep_slope q eps (lower_of hull) hull.upper) → ⊥
over-not q eps s e m hull right further inside is more over most =
    over (rw (is.pair.more more) (under-from_flat q eps (lower_of hull) hull.upper m
    (pair_left q eps s e m hull right further inside is more)
    (pair_right q eps s e m hull right further inside is more) most))

not_over-at_most : (q : Points) (eps s e m : ℕ) (hull : Hull) →
    RiseRight q → e ≤ m → m < q.count → IsHullOf q eps s e hull → s + 1 < e →
    IsUnderLine q (lower_of hull) hull.slope.slope m →
    IsAtMost (flat_slope q eps hull.upper m) (steep_slope q eps (lower_of hull) hull.upper)
not_over-at_most q eps s e m hull right further inside is more under =
    flat-from_under q eps (lower_of hull) hull.upper m
    (pair_left q eps s e m hull right further inside is more) (pair_right q eps s e m hull right further inside is more)
    (rw (is.pair.more more) at under)

-- a point that isn't over it is under it
pub under-from_not_over : (q : Points) (a : ℕ) (slope : Slope) (m : ℕ) →
    ((IsUnderLine q a slope m → ⊥) → ⊥) → IsUnderLine q a slope m
under-from_not_over q a slope m not_over =
    elim (cases_lt (q.y a * slope.run + up slope.rise * q.x m + down slope.rise * q.x a)
    (q.y m * slope.run + up slope.rise * q.x a + down slope.rise * q.x m)) [
      | inl over ↦ absurd (not_over (λ under. omega (arith, over, under-out q a slope m under)))
      | inr not_more ↦ under-in q a slope m not_more
    ]

-- the flat pair of the run
flat_pair : (hulls : Hulls) (p : Points) (eps s e : ℕ) →
    StandsFor hulls p eps s e → s + 1 < e → IsFlatPair p eps s e (lower_of hulls.flat) hulls.flat.upper
flat_pair hulls p eps s e stands more =
    IsFlatPair-from_mirrored p eps s e
    (lower_of hulls.flat) hulls.flat.upper stands.low (stands.flat.pair.pair.steep more)

-- the heights of the run and of all up to the point
pub low_to : (hulls : Hulls) (p : Points) (eps s e m x y : ℕ) →
    y < 2 ^ 32 → IsAhead hulls p eps s e m x y → (j : ℕ) → s ≤ j → j < m + 1 → p.y j < 2 ^ 32
low_to hulls p eps s e m x y low ahead j from to =
    omega (arith, ahead.stands.ascends.y_never_falls j m (omega arith) ahead.more, ahead.at_y)

-- what lies between may be passed, and so it may upside down
pub IsPassed-steep : (hulls : Hulls) (p : Points) (eps s e m x y : ℕ) →
    IsAhead hulls p eps s e m x y → IsPassed p eps s e m
IsPassed-steep hulls p eps s e m x y ahead = elim (cases_lt e m) [
  | inl further ↦ let even = ahead.even further in
      IsPassed-even p eps s e m (RiseRight-ascending p ahead.stands.ascends) ahead.more even.0 (omega arith) even.1
  | inr near ↦ let here : e ≡ m = omega (arith, ahead.order) in
      subst (λ (n : ℕ). IsPassed p eps s e n) here (IsPassed-next p eps s e)
]

pub IsPassed-flat : (hulls : Hulls) (p : Points) (eps s e m x y : ℕ) →
    y < 2 ^ 32 → IsAhead hulls p eps s e m x y → IsPassed (mirrored p) eps s e m
IsPassed-flat hulls p eps s e m x y low ahead = elim (cases_lt e m) [
  | inl further ↦
      let even = ahead.even further in
      let low_j = low_to hulls p eps s e m x y low ahead in
      IsPassed-even (mirrored p) eps s e m (RiseRight-mirrored p ahead.stands.ascends) ahead.more even.0 (omega arith)
      (AreEven-mirrored p (e - 2) m (omega arith) (λ k from to. low_j k (omega (arith, even.0)) (omega arith)) even.1)
  | inr near ↦ let here : e ≡ m = omega (arith, ahead.order) in
      subst (λ (n : ℕ). IsPassed (mirrored p) eps s e n) here (IsPassed-next (mirrored p) eps s e)
]

-- what lies between lies under the chord from the last vertex to the point, and so it does upside down
pub AreSpanned-steep : (hulls : Hulls) (p : Points) (eps s e m x y : ℕ) (hull : Hull) →
    IsAhead hulls p eps s e m x y → (e < m → last_of hull ≡ hulls.last) → AreSpanned p hull e m
AreSpanned-steep hulls p eps s e m x y hull ahead ends = λ j from to.
    let even = ahead.even (omega arith) in
    let last : last_of hull ≡ e - 1 = omega (arith, ends (omega arith), ahead.stands.last) in
    rw last (chord-even p (e - 2) (e - 1) j m even.1 (omega arith) (omega arith) (omega arith))

pub AreSpanned-flat : (hulls : Hulls) (p : Points) (eps s e m x y : ℕ) (hull : Hull) →
    y < 2 ^ 32 → IsAhead hulls p eps s e m x y → (e < m → last_of hull ≡ hulls.last) → AreSpanned (mirrored p) hull e m
AreSpanned-flat hulls p eps s e m x y hull low ahead ends = λ j from to.
    let even = ahead.even (omega arith) in
    let low_j = low_to hulls p eps s e m x y low ahead in
    let last : last_of hull ≡ e - 1 = omega (arith, ends (omega arith), ahead.stands.last) in
    rw last (chord-even (mirrored p) (e - 2) (e - 1) j m
    (AreEven-mirrored p (e - 2) m (omega arith) (λ k low high. low_j k (omega (arith, even.0)) (omega arith)) even.1)
    (omega arith) (omega arith) (omega arith))

-- a point over the steep line
pub is_over-several : (hulls : Hulls) (p : Points) (eps s e m x y : ℕ) → y < 2 ^ 32 → IsAhead hulls p eps s e m x y →
    (IsUnderLine p (lower_of hulls.steep) hulls.steep.slope.slope m → ⊥) → s + 1 < e
is_over-several hulls p eps s e m x y low ahead over =
    several p eps s e m hulls.steep (RiseRight-ascending p ahead.stands.ascends) ahead.order ahead.more
    (omega (arith, ahead.at_y)) ahead.stands.steep over

is_over : (hulls : Hulls) (p : Points) (eps s e m x y : ℕ) → y < 2 ^ 32 → IsAhead hulls p eps s e m x y →
    (IsUnderLine p (lower_of hulls.steep) hulls.steep.slope.slope m → ⊥) →
    IsOver p eps (lower_of hulls.steep) hulls.steep.upper m
is_over hulls p eps s e m x y low ahead over =
    let more = is_over-several hulls p eps s e m x y low ahead over in
    let pair = (ahead.stands.steep.pair.pair.steep more).pair in
    IsOver-in p eps (lower_of hulls.steep) hulls.steep.upper m ahead.stands.ascends pair.rises
    (omega (arith, pair.to_end, ahead.order)) ahead.more
    (over-not p eps s e m hulls.steep
    (RiseRight-ascending p ahead.stands.ascends) ahead.order ahead.more ahead.stands.steep more over)

pub no_line-over : (hulls : Hulls) (p : Points) (eps s e m x y : ℕ) → y < 2 ^ 32 → IsAhead hulls p eps s e m x y →
    (IsUnderLine p (lower_of hulls.steep) hulls.steep.slope.slope m → ⊥) → SomeLineFits p eps s (m + 1) → ⊥
no_line-over hulls p eps s e m x y low ahead over =
    let more = is_over-several hulls p eps s e m x y low ahead over in
    let pair = (ahead.stands.steep.pair.pair.steep more).pair in
    IsOver-no_line p eps s m (lower_of hulls.steep) hulls.steep.upper ahead.stands.ascends ahead.more
    (record { from_start = pair.from_start; rises = pair.rises; to_end = omega (arith, pair.to_end, ahead.order) })
    (is_over hulls p eps s e m x y low ahead over)

pub IsCutOf-over : (hulls : Hulls) (p : Points) (eps s e x y place : ℕ) (w : Witness) →
    y < 2 ^ 32 → place ≡ e → IsNext hulls p eps s e x y →
    (IsUnderLine p (lower_of hulls.steep) hulls.steep.slope.slope e → ⊥) →
    w ≡ record { p = lower_of hulls.steep; q = hulls.steep.upper; r = place; side = Over } → IsCutOf p eps s e w
IsCutOf-over hulls p eps s e x y place w low here next over same =
    let ahead = IsAhead-next hulls p eps s e x y next in
    let more = is_over-several hulls p eps s e e x y low ahead over in
    let beyond = is_over hulls p eps s e e x y low ahead over in
    rw same (record {
      place = here;
      side = (
        next.stands.steep.pair.pair.steep more,
        beyond,
        λ c d flat under. sides_exclude p eps s e (lower_of hulls.steep) hulls.steep.upper c d
            (record {
              ascends = next.stands.ascends;
              inside = next.more;
              fits = next.stands.fits;
              steep = next.stands.steep.pair.pair.steep more;
              flat = flat;
            }) beyond under,
      );
    })

-- a point under the flat line, which lies over the steep line upside down
pub is_under-several : (hulls : Hulls) (p : Points) (eps s e m x y : ℕ) → IsAhead hulls p eps s e m x y →
    (IsUnderLine (mirrored p) (lower_of hulls.flat) hulls.flat.slope.slope m → ⊥) → s + 1 < e
is_under-several hulls p eps s e m x y ahead over =
    several (mirrored p) eps s e m hulls.flat
    (RiseRight-mirrored p ahead.stands.ascends) ahead.order ahead.more (omega arith) ahead.stands.flat over

is_under : (hulls : Hulls) (p : Points) (eps s e m x y : ℕ) → y < 2 ^ 32 → IsAhead hulls p eps s e m x y →
    (IsUnderLine (mirrored p) (lower_of hulls.flat) hulls.flat.slope.slope m → ⊥) →
    IsUnder p eps (lower_of hulls.flat) hulls.flat.upper m
is_under hulls p eps s e m x y low ahead over =
    let more = is_under-several hulls p eps s e m x y ahead over in
    let pair = (ahead.stands.flat.pair.pair.steep more).pair in
    let order = ahead.order in
    let low_j = low_to hulls p eps s e m x y low ahead in
    let low_lower = low_j (lower_of hulls.flat) pair.from_start (omega (arith, pair.rises, pair.to_end)) in
    let low_upper = low_j hulls.flat.upper (omega (arith, pair.from_start, pair.rises)) (omega (arith, pair.to_end)) in
    IsUnder-in p eps (lower_of hulls.flat) hulls.flat.upper m ahead.stands.ascends pair.rises
    (omega (arith, pair.to_end)) ahead.more (λ most.
    over-not (mirrored p) eps s e m hulls.flat
    (RiseRight-mirrored p ahead.stands.ascends) order ahead.more ahead.stands.flat more over
    (mirrored-from_steep p eps hulls.flat.upper m (lower_of hulls.flat) hulls.flat.upper low_upper
    (low_j m (omega (arith, more)) (omega arith)) low_lower low_upper most))

pub no_line-under : (hulls : Hulls) (p : Points) (eps s e m x y : ℕ) → y < 2 ^ 32 → IsAhead hulls p eps s e m x y →
    (IsUnderLine (mirrored p) (lower_of hulls.flat) hulls.flat.slope.slope m → ⊥) → SomeLineFits p eps s (m + 1) → ⊥
no_line-under hulls p eps s e m x y low ahead over =
    let more = is_under-several hulls p eps s e m x y ahead over in
    let pair = (ahead.stands.flat.pair.pair.steep more).pair in
    IsUnder-no_line p eps s m (lower_of hulls.flat) hulls.flat.upper ahead.stands.ascends ahead.more
    (record { from_start = pair.from_start; rises = pair.rises; to_end = omega (arith, pair.to_end, ahead.order) })
    (is_under hulls p eps s e m x y low ahead over)

pub IsCutOf-under : (hulls : Hulls) (p : Points) (eps s e x y place : ℕ) (w : Witness) →
    y < 2 ^ 32 → place ≡ e → IsNext hulls p eps s e x y →
    (IsUnderLine (mirrored p) (lower_of hulls.flat) hulls.flat.slope.slope e → ⊥) →
    w ≡ record { p = lower_of hulls.flat; q = hulls.flat.upper; r = place; side = Under } → IsCutOf p eps s e w
IsCutOf-under hulls p eps s e x y place w low here next over same =
    let ahead = IsAhead-next hulls p eps s e x y next in
    let more = is_under-several hulls p eps s e e x y ahead over in
    let beyond = is_under hulls p eps s e e x y low ahead over in
    let flat = flat_pair hulls p eps s e next.stands more in
    rw same (record {
      place = here;
      side = (
        flat,
        beyond,
        λ a b steep above. sides_exclude p eps s e a b (lower_of hulls.flat) hulls.flat.upper
            (record {
              ascends = next.stands.ascends;
              inside = next.more;
              fits = next.stands.fits;
              steep = steep;
              flat = flat;
            }) above beyond,
      );
    })

-- ---- a point that is neither: some line fits the run with it,
-- if what lies between is left out, and so it fits that as well

-- the places before e, and then the place m
abbrev thinned : Points → ℕ → ℕ → Points
thinned p e m =
    record { count = e + 1; x = λ j. p.x (j + (m - e) * (j + 1 - e)); y = λ j. p.y (j + (m - e) * (j + 1 - e)) }

place_kept : (e m j : ℕ) → j < e → j + (m - e) * (j + 1 - e) ≡ j
place_kept e m j before = let none : j + 1 - e ≡ 0 = omega arith in rw none (omega arith)

place_last : (e m : ℕ) → e ≤ m → e + (m - e) * (e + 1 - e) ≡ m
place_last e m further = let one : e + 1 - e ≡ 1 = omega arith in rw one (omega arith)

thinned-ascends : (p : Points) (e m : ℕ) → e ≤ m → m < p.count → IsAscending p → IsAscending (thinned p e m)
thinned-ascends p e m further inside ascends = record {
  x_rises = λ i j less within. elim (cases_lt j e) [
    | inl before ↦ rw (place_kept e m i (omega arith), place_kept e m j before) (ascends.x_rises i j less (omega arith))
    | inr late ↦ let here : j ≡ e = omega arith in
        rw (here, place_kept e m i (omega arith), place_last e m further) (ascends.x_rises i m (omega arith) inside)
  ];
  y_never_falls = λ i j order within. elim (cases_lt j e) [
    | inl before ↦
        rw (place_kept e m i (omega arith), place_kept e m j before) (ascends.y_never_falls i j order (omega arith))
    | inr late ↦ let here : j ≡ e = omega arith in elim (cases_lt i e) [
      | inl early ↦
          rw (here, place_kept e m i early, place_last e m further) (ascends.y_never_falls i m (omega arith) inside)
      | inr both ↦ let same : i ≡ e = omega arith in rw (same, here) (omega arith)
    ]
  ];
}

thinned-within : (p : Points) (eps : ℕ) (line : RationalLine) (e m j k : ℕ) →
    j + (m - e) * (j + 1 - e) ≡ k → IsWithin (thinned p e m) eps line j → IsWithin p eps line k
thinned-within p eps line e m j k here near = record { near = rw here at near.near }

within-thinned : (p : Points) (eps : ℕ) (line : RationalLine) (e m j k : ℕ) →
    j + (m - e) * (j + 1 - e) ≡ k → IsWithin p eps line k → IsWithin (thinned p e m) eps line j
within-thinned p eps line e m j k here near = record { near = rw here near.near }

thinned-steep : (p : Points) (eps s e m a b : ℕ) → IsSteepPair p eps s e a b → IsSteepPair (thinned p e m) eps s e a b
thinned-steep p eps s e m a b steep =
    let own = steep.pair in
    let same_a = place_kept e m a (omega (arith, own.rises, own.to_end)) in
    let same_b = place_kept e m b own.to_end in
    record {
      pair = own;
      least = λ c d pair.
          rw (same_a, same_b, place_kept e m c (omega (arith, pair.rises, pair.to_end)), place_kept e m d pair.to_end)
          (steep.least c d pair);
      first = λ c d pair ties. steep.first c d pair
          (rw (same_a, same_b, place_kept e m c (omega (arith, pair.rises, pair.to_end)), place_kept e m d pair.to_end)
          at ties);
    }

thinned-flat : (p : Points) (eps s e m a b : ℕ) → IsFlatPair p eps s e a b → IsFlatPair (thinned p e m) eps s e a b
thinned-flat p eps s e m a b flat =
    let own = flat.pair in
    let same_a = place_kept e m a (omega (arith, own.rises, own.to_end)) in
    let same_b = place_kept e m b own.to_end in
    record {
      pair = own;
      greatest = λ c d pair.
          rw (same_a, same_b, place_kept e m c (omega (arith, pair.rises, pair.to_end)), place_kept e m d pair.to_end)
          (flat.greatest c d pair);
      first = λ c d pair ties. flat.first c d pair
          (rw (same_a, same_b, place_kept e m c (omega (arith, pair.rises, pair.to_end)), place_kept e m d pair.to_end)
          at ties);
    }

one_more : (e : ℕ) → e < e + 1
one_more e = omega arith

-- a line within eps at the run and at the point is so at what lies between
fits-between : (hulls : Hulls) (p : Points) (eps s e m x y : ℕ) →
    IsAhead hulls p eps s e m x y → SomeLineFits (thinned p e m) eps s (e + 1) → SomeLineFits p eps s (m + 1)
fits-between hulls p eps s e m x y ahead fits =
    let line = fits.0 in
    let order = ahead.order in
    let some = ahead.stands.steep.pair.some in
    let before : (j : ℕ) → s ≤ j → j < e → IsWithin p eps line j =
    λ j from to. thinned-within p eps line e m j j (place_kept e m j to) (fits.1 j from (omega arith)) in
    let last : IsWithin p eps line m =
    thinned-within p eps line e m e m (place_last e m order) (fits.1 e (omega arith) (omega arith)) in (
      line,
      λ j from to. elim (cases_lt j e) [
        | inl early ↦ before j from early
        | inr late ↦ elim (cases_lt j m) [
          | inl between ↦
              let even = ahead.even (omega arith) in
              within-between p eps line (e - 1) j m
              (omega arith) (Parts-even p (e - 2) (e - 1) j m even.1 (omega arith) (omega arith) (omega arith))
              (omega arith) (omega arith)
              (before (e - 1) (omega arith) (omega arith)) last
          | inr here ↦ let same : j ≡ m = omega arith in rw same last
        ]
      ],
    )

pub fits-longer : (hulls : Hulls) (p : Points) (eps s e m x y : ℕ) → y < 2 ^ 32 → IsAhead hulls p eps s e m x y →
    IsUnderLine p (lower_of hulls.steep) hulls.steep.slope.slope m →
    IsUnderLine (mirrored p) (lower_of hulls.flat) hulls.flat.slope.slope m →
    SomeLineFits p eps s (m + 1)
fits-longer hulls p eps s e m x y low ahead not_over not_under =
    let stands = ahead.stands in
    let order = ahead.order in
    let right = RiseRight-ascending p stands.ascends in
    let ascends = thinned-ascends p e m order ahead.more stands.ascends in
    elim (cases_lt (s + 1) e) [
      | inl more ↦
          let steep = stands.steep.pair.pair.steep more in
          let flat = flat_pair hulls p eps s e stands more in
          let pair = flat.pair in
          let low_j = low_to hulls p eps s e m x y low ahead in
          let low_lower = low_j (lower_of hulls.flat) pair.from_start (omega (arith, pair.rises, pair.to_end)) in
          let low_upper =
          low_j hulls.flat.upper (omega (arith, pair.from_start, pair.rises)) (omega (arith, pair.to_end)) in
          let over = not_over-at_most p eps s e m hulls.steep right order ahead.more stands.steep more not_over in
          let under = steep-from_mirrored p eps hulls.flat.upper m (lower_of hulls.flat) hulls.flat.upper low_upper
          (low_j m (omega (arith, more)) (omega arith)) low_lower low_upper
          (not_over-at_most (mirrored p) eps s e m hulls.flat
          (RiseRight-mirrored p stands.ascends) order ahead.more stands.flat more not_under) in
          let last = place_last e m order in
          let kept : (k : ℕ) → k < e → k + (m - e) * (k + 1 - e) ≡ k = place_kept e m in
          fits-between hulls p eps s e m x y ahead
          (some_line-longer
          (thinned p e m) eps s e (lower_of hulls.steep) hulls.steep.upper (lower_of hulls.flat) hulls.flat.upper
          (record {
            ascends = ascends;
            inside = one_more e;
            fits = (
              stands.fits.0,
              λ j from to.
                  within-thinned p eps stands.fits.0 e m j j (place_kept e m j to) (stands.fits.1 j from to),
            );
            steep = thinned-steep p eps s e m (lower_of hulls.steep) hulls.steep.upper steep;
            flat = thinned-flat p eps s e m (lower_of hulls.flat) hulls.flat.upper flat;
          })
          (rw (
            last,
            kept (lower_of hulls.steep) (omega (arith, steep.pair.rises, steep.pair.to_end)),
            kept hulls.steep.upper steep.pair.to_end,
          ) over)
          (rw (
            last,
            kept (lower_of hulls.flat) (omega (arith, pair.rises, pair.to_end)),
            kept hulls.flat.upper pair.to_end,
          ) under))
      | inr one ↦
          let two : s + 2 ≡ e + 1 = omega (arith, stands.steep.pair.some) in
          fits-between hulls p eps s e m x y ahead
          (subst (λ (n : ℕ). SomeLineFits (thinned p e m) eps s n) two
          (some_line-two_places (thinned p e m) eps s ascends (omega arith)))
    ]

-- where some line fits the run with the point, it is under the steep line, and under the flat one upside down
pub under-steep : (hulls : Hulls) (p : Points) (eps s e m x y : ℕ) →
    y < 2 ^ 32 → IsAhead hulls p eps s e m x y → SomeLineFits p eps s (m + 1) →
    IsUnderLine p (lower_of hulls.steep) hulls.steep.slope.slope m
under-steep hulls p eps s e m x y low ahead fits = under-from_not_over p
    (lower_of hulls.steep) hulls.steep.slope.slope m (λ over. no_line-over hulls p eps s e m x y low ahead over fits)

pub under-flat : (hulls : Hulls) (p : Points) (eps s e m x y : ℕ) →
    y < 2 ^ 32 → IsAhead hulls p eps s e m x y → SomeLineFits p eps s (m + 1) →
    IsUnderLine (mirrored p) (lower_of hulls.flat) hulls.flat.slope.slope m
under-flat hulls p eps s e m x y low ahead fits =
    under-from_not_over (mirrored p)
    (lower_of hulls.flat) hulls.flat.slope.slope m (λ over. no_line-under hulls p eps s e m x y low ahead over fits)

-- it lies under no pair of the run, and upside down under none as well
pub IsFittable-steep : (hulls : Hulls) (p : Points) (eps s e m x y : ℕ) →
    IsAhead hulls p eps s e m x y → SomeLineFits p eps s (m + 1) → IsFittable p eps s e m
IsFittable-steep hulls p eps s e m x y ahead fits =
    let order = ahead.order in
    record {
      not_under =
          λ c d pair. flat_at_most_steep p eps s (m + 1) c d d m ahead.stands.ascends (omega (arith, ahead.more)) fits
          (record { from_start = pair.from_start; rises = pair.rises; to_end = omega (arith, pair.to_end) })
          (record {
            from_start = omega (arith, pair.from_start, pair.rises);
            rises = omega (arith, pair.to_end);
            to_end = omega arith;
          });
    }

pub IsFittable-flat : (hulls : Hulls) (p : Points) (eps s e m x y : ℕ) →
    y < 2 ^ 32 → IsAhead hulls p eps s e m x y → SomeLineFits p eps s (m + 1) → IsFittable (mirrored p) eps s e m
IsFittable-flat hulls p eps s e m x y low ahead fits =
    let order = ahead.order in
    let low_j = low_to hulls p eps s e m x y low ahead in
    record {
      not_under = λ c d pair.
          let low_c = low_j c pair.from_start (omega (arith, pair.rises, pair.to_end)) in
          let low_d = low_j d (omega (arith, pair.from_start, pair.rises)) (omega (arith, pair.to_end)) in
          mirrored-from_steep p eps c d d m low_c low_d low_d
          (low_j m (omega (arith, pair.from_start, pair.rises, pair.to_end)) (omega arith))
          (flat_at_most_steep p eps s (m + 1) d m c d ahead.stands.ascends (omega (arith, ahead.more)) fits
          (record {
            from_start = omega (arith, pair.from_start, pair.rises);
            rises = omega (arith, pair.to_end);
            to_end = omega arith;
          })
          (record { from_start = pair.from_start; rises = pair.rises; to_end = omega (arith, pair.to_end) }));
    }

-- a pair that stays the longer run's is one of two places
stays-several : (q : Points) (eps s e m : ℕ) (hull : Hull) →
    e ≤ m → IsHullOf q eps s e hull → IsHullUpTo q eps s e (m + 1) hull → s + 1 < e
stays-several q eps s e m hull further is stays = elim (cases_lt (s + 1) e) [
  | inl more ↦ more
  | inr one ↦
      let alone = is.pair.pair.alone (omega (arith, is.pair.some)) in
      absurd (omega (arith, alone.0, alone.1, (stays.pair.pair.steep (omega (arith, is.pair.some))).pair.rises))
]

-- where the flat pair stays, the point and all between are shadowed,
-- and where the steep pair stays, they are shadowed upside down
pub AreShadowed-steep : (hulls : Hulls) (p : Points) (eps s e m x y : ℕ) →
    y < 2 ^ 32 → IsAhead hulls p eps s e m x y → IsHullUpTo (mirrored p) eps s e (m + 1) hulls.flat →
    (j : ℕ) → e ≤ j → j ≤ m → IsShadowed p eps s j
AreShadowed-steep hulls p eps s e m x y low ahead stays = λ j from to.
    let is = ahead.stands.flat in
    let low_j = low_to hulls p eps s e m x y low ahead in
    let more = stays-several (mirrored p) eps s e m hulls.flat ahead.order is stays in
    let pair = (is.pair.pair.steep more).pair in
    let least = (stays.pair.pair.steep (omega arith)).least (lower_of hulls.flat) j
    (record { from_start = pair.from_start; rises = omega (arith, pair.rises, pair.to_end); to_end = omega arith }) in
    let low_c = low_j (lower_of hulls.flat) pair.from_start (omega (arith, pair.rises, pair.to_end)) in (
      lower_of hulls.flat,
      hulls.flat.upper,
      record { from_start = pair.from_start; rises = pair.rises; to_end = omega (arith, pair.to_end) },
      flat-from_mirrored p eps (lower_of hulls.flat) hulls.flat.upper (lower_of hulls.flat) j low_c
          (low_j hulls.flat.upper (omega (arith, pair.from_start, pair.rises)) (omega (arith, pair.to_end))) low_c
          (low_j j (omega (arith, more)) (omega arith)) least,
    )

pub AreShadowed-flat : (hulls : Hulls) (p : Points) (eps s e m x y : ℕ) →
    y < 2 ^ 32 → IsAhead hulls p eps s e m x y → IsHullUpTo p eps s e (m + 1) hulls.steep →
    (j : ℕ) → e ≤ j → j ≤ m → IsShadowed (mirrored p) eps s j
AreShadowed-flat hulls p eps s e m x y low ahead stays = λ j from to.
    let is = ahead.stands.steep in
    let low_j = low_to hulls p eps s e m x y low ahead in
    let more = stays-several p eps s e m hulls.steep ahead.order is stays in
    let pair = (is.pair.pair.steep more).pair in
    let least = (stays.pair.pair.steep (omega arith)).least (lower_of hulls.steep) j
    (record { from_start = pair.from_start; rises = omega (arith, pair.rises, pair.to_end); to_end = omega arith }) in
    let low_a = low_j (lower_of hulls.steep) pair.from_start (omega (arith, pair.rises, pair.to_end)) in (
      lower_of hulls.steep,
      hulls.steep.upper,
      record { from_start = pair.from_start; rises = pair.rises; to_end = omega (arith, pair.to_end) },
      mirrored_flat-from_steep p eps (lower_of hulls.steep) hulls.steep.upper (lower_of hulls.steep) j low_a
          (low_j hulls.steep.upper (omega (arith, pair.from_start, pair.rises)) (omega (arith, pair.to_end))) low_a
          (low_j j (omega (arith, more)) (omega arith)) least,
    )

-- the run with the new point
pub StandsFor-longer : (hulls longer : Hulls) (p : Points) (eps s e m x y : ℕ) →
    y < 2 ^ 32 → IsAhead hulls p eps s e m x y → SomeLineFits p eps s (m + 1) →
    IsHullOf p eps s (m + 1) longer.steep → IsHullOf (mirrored p) eps s (m + 1) longer.flat →
    longer.last ≡ m → longer.eps ≡ hulls.eps → StandsFor longer p eps s (m + 1)
StandsFor-longer hulls longer p eps s e m x y low ahead fits steep flat last same = record {
  ascends = ahead.stands.ascends;
  inside = omega (arith, ahead.more);
  low = low_to hulls p eps s e m x y low ahead;
  last = omega (arith, last);
  bound = same ∙ ahead.stands.bound;
  bounded = ahead.stands.bounded;
  fits = fits;
  steep = steep;
  flat = flat;
}

-- the run of one point
pub StandsFor-one : (hulls : Hulls) (p : Points) (eps place x y : ℕ) →
    IsAscending p → place < p.count → p.y place < 2 ^ 32 → hulls.last ≡ place → hulls.eps ≡ eps → eps ≤ 1048576 →
    IsHullOf p eps place (place + 1) hulls.steep →
    IsHullOf (mirrored p) eps place (place + 1) hulls.flat → StandsFor hulls p eps place (place + 1)
StandsFor-one hulls p eps place x y ascends inside low last bound bounded steep flat = record {
  ascends = ascends;
  inside = omega arith;
  low = λ j from to. let same : j ≡ place = omega arith in rw same low;
  last = omega (arith, last);
  bound = bound;
  bounded = bounded;
  fits = some_line-one_place p eps place;
  steep = steep;
  flat = flat;
}

-- what holds where neither does
pub OnFalse-either : {P Q : Type 0} (a b : Bool) → (P → Q) → OnFalse a P → OnFalse (a || b) Q
OnFalse-either true b f h = tt
OnFalse-either false true f h = tt
OnFalse-either false false f h = f h

-- the last vertex of the same vertices
pub last_of-same : (new old : Hull) (last : ℕ) → new.vertices ≡ old.vertices → last_of old ≡ last → last_of new ≡ last
last_of-same new old last same is = rw same is
