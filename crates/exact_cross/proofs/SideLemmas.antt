-- On which side of a run's lines the next place lies.
--
-- Main results: a place over the steep pair or under the flat one
-- ends the run (`IsOver-no_line`, `IsUnder-no_line`), a place
-- that is neither goes on with it (`some_line-longer`), and no place is
-- both (`sides_exclude`).
--
--                                   r  over: even from eps below r
--              steep line     .  '     the chord passes b too high
--                   b + eps '
--               .  '        |   . - '  flat line
--     a - eps '    . - ' d - eps
--          c + eps                  r  under: the same upside down
--
-- The idea: the steep line goes from eps below a to eps above b
-- and is at most eps above every place of the run (`flat_up_to`
-- reads that off at j). So where r isn't over the pair, the flat
-- slope from j to r isn't above the steep one, for each j; the
-- same upside down for the flat pair (`steep_up_to`). Pairs that both end at r are led over the place between them
-- (`flat_through`, `steep_through`). Then no flat slope is above
-- a steep one, and the steep pair's line fits. All is cleared
-- of denominators: a slope is compared by cross products, and sums of naturals are left to linear arithmetic.
use Rattle.std.proofs.Common.{◌≡◌, ℕ, ◌+◌, ◌*◌, ◌-◌, ◌<◌, ◌≤◌, ◌+ℤ◌, ◌≤ℤ◌, inl, inr, ap, arith}
use Rattle.std.proofs.lemmas.Int.{ints}
use Rattle.std.proofs.lemmas.Bool.{cases_lt, cases_order, cases_eq}
use Rattle.exact_cross.specs.declared.slope.Slope.{Slope}
use Rattle.exact_cross.specs.Points.{Points, IsAscending}
use Rattle.exact_cross.specs.Lines.{SomeLineFits, rational}
use Rattle.exact_cross.specs.Slopes.{IsAtMost, steep_slope, flat_slope}
use Rattle.exact_cross.specs.Steep.{IsPair, IsSteepPair, IsFlatPair}
use Rattle.exact_cross.specs.Witnesses.{IsOver, IsUnder}
use borrow.Author.Differences.{up, down}
use Rattle.std.proofs.Math.Nat.{mul-le-mul_right}
use Rattle.exact_cross.proofs.Cleared.{difference_times, products_le-out, products_le-in}
use Rattle.exact_cross.proofs.Cleared.{IsAtMost-out, IsAtMost-in, IsWithin-above}
use Rattle.exact_cross.proofs.SteepLine.{IsWide, IsWide-from_pair, rising_line, rising_line_fits}
use Rattle.exact_cross.proofs.LineSlopes.{flat_at_most_steep}
use Rattle.exact_cross.proofs.SlopeOrder.{IsAtMost-refl, IsAtMost-trans, IsAtMost-total}
use Rattle.exact_cross.proofs.PairOrder.{flat_at_most_own_steep, IsSteepPair-two_places, IsSteepPair-some}
use Rattle.exact_cross.proofs.StoredLine.{some_line-from_pairs}

-- the gaps of three places
spans : (x y z : ℕ) → x < y → y < z → z - x ≡ (z - y) + (y - x)
spans x y z low high = omega arith

-- a place is over a pair exactly where the flat slope from the pair's upper place to it is above the pair's steep slope
pub IsOver-in : (p : Points) (eps a b r : ℕ) → IsAscending p → a < b → b < r → r < p.count →
    (IsAtMost (flat_slope p eps b r) (steep_slope p eps a b) → ⊥) → IsOver p eps a b r
IsOver-in p eps a b r ascends rises after inside above =
    let width = p.x b - p.x a in
    let gap = p.x r - p.x b in
    let whole : p.x r - p.x a ≡ gap + width =
    spans (p.x a) (p.x b) (p.x r) (ascends.x_rises a b rises (omega arith)) (ascends.x_rises b r after inside) in
    elim (cases_lt ((p.y b + 2 * eps) * gap + (p.y b + 2 * eps) * width) (p.y r * width + p.y a * gap)) [
      | inl less ↦
          record {
            over = rw whole
                (omega (arith, ints, less, difference_times (p.y a) eps gap, difference_times (p.y r) eps width));
          }
      | inr more ↦ absurd
          (above
          (record { at_most = products_le-in (p.y r) (p.y b + 2 * eps) width (p.y b + 2 * eps) (p.y a) gap more }))
    ]

pub IsOver-out : (p : Points) (eps a b r : ℕ) → IsAscending p → a < b → b < r → r < p.count →
    IsOver p eps a b r → IsAtMost (flat_slope p eps b r) (steep_slope p eps a b) → ⊥
IsOver-out p eps a b r ascends rises after inside over most =
    let width = p.x b - p.x a in
    let gap = p.x r - p.x b in
    let whole : p.x r - p.x a ≡ gap + width =
    spans (p.x a) (p.x b) (p.x r) (ascends.x_rises a b rises (omega arith)) (ascends.x_rises b r after inside) in
    let flat = products_le-out (p.y r) (p.y b + 2 * eps) width (p.y b + 2 * eps) (p.y a) gap most.at_most in
    let chord = rw whole at over.over in
    omega (arith, ints, flat, chord, difference_times (p.y a) eps gap, difference_times (p.y r) eps width)

-- a place is under a pair exactly where the steep slope from
-- the pair's upper place to it is below the pair's flat slope
pub IsUnder-in : (p : Points) (eps a b r : ℕ) → IsAscending p → a < b → b < r → r < p.count →
    (IsAtMost (flat_slope p eps a b) (steep_slope p eps b r) → ⊥) → IsUnder p eps a b r
IsUnder-in p eps a b r ascends rises after inside below =
    let width = p.x b - p.x a in
    let gap = p.x r - p.x b in
    let whole : p.x r - p.x a ≡ gap + width =
    spans (p.x a) (p.x b) (p.x r) (ascends.x_rises a b rises (omega arith)) (ascends.x_rises b r after inside) in
    elim (cases_lt ((p.y r + 2 * eps) * width + (p.y a + 2 * eps) * gap) (p.y b * gap + p.y b * width)) [
      | inl less ↦ record { under = rw whole (omega (arith, ints, less, difference_times (p.y b) eps (gap + width))) }
      | inr more ↦ absurd
          (below
          (record { at_most = products_le-in (p.y b) (p.y a + 2 * eps) gap (p.y r + 2 * eps) (p.y b) width more }))
    ]

pub IsUnder-out : (p : Points) (eps a b r : ℕ) → IsAscending p → a < b → b < r → r < p.count →
    IsUnder p eps a b r → IsAtMost (flat_slope p eps a b) (steep_slope p eps b r) → ⊥
IsUnder-out p eps a b r ascends rises after inside under most =
    let width = p.x b - p.x a in
    let gap = p.x r - p.x b in
    let whole : p.x r - p.x a ≡ gap + width =
    spans (p.x a) (p.x b) (p.x r) (ascends.x_rises a b rises (omega arith)) (ascends.x_rises b r after inside) in
    let steep = products_le-out (p.y b) (p.y a + 2 * eps) gap (p.y r + 2 * eps) (p.y b) width most.at_most in
    let chord = rw whole at under.under in
    omega (arith, ints, steep, chord, difference_times (p.y b) eps (gap + width))

-- a slope that goes up no further than two others after each other isn't above what neither of them is above
sum_at_most : (f g h s : Slope) →
    f.rise ≤ℤ (g.rise +ℤ h.rise) → f.run ≡ g.run + h.run → IsAtMost g s → IsAtMost h s → IsAtMost f s
sum_at_most f g h s rises runs first second =
    let climbs : up f.rise + (down g.rise + down h.rise) ≤ up g.rise + up h.rise + down f.rise = omega (arith, ints) in
    IsAtMost-in f s (omega (
      arith,
      mul-le-mul_right s.run climbs,
      IsAtMost-out g s first,
      IsAtMost-out h s second,
      ap (λ (t : ℕ). up s.rise * t) runs,
      ap (λ (t : ℕ). down s.rise * t) runs,
    ))

sum_at_least : (f g h s : Slope) →
    (g.rise +ℤ h.rise) ≤ℤ f.rise → f.run ≡ g.run + h.run → IsAtMost s g → IsAtMost s h → IsAtMost s f
sum_at_least f g h s rises runs first second =
    let climbs : up g.rise + up h.rise + down f.rise ≤ up f.rise + (down g.rise + down h.rise) = omega (arith, ints) in
    IsAtMost-in s f (omega (
      arith,
      mul-le-mul_right s.run climbs,
      IsAtMost-out s g first,
      IsAtMost-out s h second,
      ap (λ (t : ℕ). up s.rise * t) runs,
      ap (λ (t : ℕ). down s.rise * t) runs,
    ))

-- from j to r by way of m
flat_through : (p : Points) (eps j m r : ℕ) (s : Slope) → IsAscending p → j < m → m < r → r < p.count →
    IsAtMost (flat_slope p eps j m) s → IsAtMost (steep_slope p eps m r) s → IsAtMost (flat_slope p eps j r) s
flat_through p eps j m r s ascends low high inside first second =
    let whole =
    spans (p.x j) (p.x m) (p.x r) (ascends.x_rises j m low (omega arith)) (ascends.x_rises m r high inside) in
    sum_at_most
    (flat_slope p eps j r) (steep_slope p eps m r) (flat_slope p eps j m) s (omega (arith, ints)) whole second first

steep_through : (p : Points) (eps j m r : ℕ) (s : Slope) → IsAscending p → j < m → m < r → r < p.count →
    IsAtMost s (steep_slope p eps j m) → IsAtMost s (flat_slope p eps m r) → IsAtMost s (steep_slope p eps j r)
steep_through p eps j m r s ascends low high inside first second =
    let whole =
    spans (p.x j) (p.x m) (p.x r) (ascends.x_rises j m low (omega arith)) (ascends.x_rises m r high inside) in
    sum_at_least (steep_slope p eps j r)
    (flat_slope p eps m r) (steep_slope p eps j m) s (omega (arith, ints)) whole second first

-- the line of the pair (a, b) is at most eps above j, and it isn't below r: then it isn't flatter than from j to r
over_from : (rise ya yb yj yr eps width after gap xa xb xj xr : ℕ) →
    rise + ya ≡ yb + 2 * eps → xb ≡ xa + width → xr ≡ xb + after → xr ≡ xj + gap →
    rise * xj + ya * width ≤ rise * xa + width * yj + 2 * (width * eps) →
    yr * width + ya * after ≤ (yb + 2 * eps) * after + (yb + 2 * eps) * width →
    yr * width + ya * gap ≤ (yb + 2 * eps) * gap + (yj + 2 * eps) * width
over_from rise ya yb yj yr eps width after gap xa xb xj xr climbs to_b to_r from_j above reaches =
    omega (
      arith,
      above,
      reaches,
      ap (λ (t : ℕ). t * width) climbs,
      ap (λ (t : ℕ). t * after) climbs,
      ap (λ (t : ℕ). t * gap) climbs,
      ap (λ (t : ℕ). rise * t) to_b,
      ap (λ (t : ℕ). rise * t) to_r,
      ap (λ (t : ℕ). rise * t) from_j,
    )

-- the line through eps above c and eps below d isn't below j - eps,
-- and it isn't above r: then it isn't steeper than from j to r
under_right : (yc yd yj yr eps width after gap step : ℕ) → gap + step ≡ after + width →
    yj * width + (yc + 2 * eps) * step ≤ yd * step + (yc + 2 * eps) * width →
    yd * after + yd * width ≤ (yr + 2 * eps) * width + (yc + 2 * eps) * after →
    yd * gap + yj * width ≤ (yr + 2 * eps) * width + (yc + 2 * eps) * gap
under_right yc yd yj yr eps width after gap step gaps below reaches =
    omega (arith, below, reaches, ap (λ (t : ℕ). yd * t) gaps, ap (λ (t : ℕ). (yc + 2 * eps) * t) gaps)

under_left : (yc yd yj yr eps width after gap step : ℕ) → gap ≡ after + width + step →
    yd * step + yj * width ≤ (yc + 2 * eps) * width + (yc + 2 * eps) * step →
    yd * after + yd * width ≤ (yr + 2 * eps) * width + (yc + 2 * eps) * after →
    yd * gap + yj * width ≤ (yr + 2 * eps) * width + (yc + 2 * eps) * gap
under_left yc yd yj yr eps width after gap step gaps below reaches =
    omega (arith, below, reaches, ap (λ (t : ℕ). yd * t) gaps, ap (λ (t : ℕ). (yc + 2 * eps) * t) gaps)

-- a run that some line fits, with its steep and its flat pair, and a place after it
pub record IsFollowed (p : Points) (eps s e a b c d : ℕ) : Type 0 where
  pub ascends : IsAscending p
  pub inside : e < p.count
  pub fits : SomeLineFits p eps s e
  pub steep : IsSteepPair p eps s e a b
  pub flat : IsFlatPair p eps s e c d

-- where the place isn't over the steep pair, no flat slope up to it is above the steep one
flat_up_to : (p : Points) (eps s e a b c d j : ℕ) → IsFollowed p eps s e a b c d → s ≤ j → j < e →
    IsAtMost (flat_slope p eps b e) (steep_slope p eps a b) → IsAtMost (flat_slope p eps j e) (steep_slope p eps a b)
flat_up_to p eps s e a b c d j run from to reaches =
    let ascends = run.ascends in
    let pair = run.steep.pair in
    let wide :
    IsWide p eps a b = IsWide-from_pair p eps a b ascends pair.rises (omega (arith, pair.to_end, run.inside)) in
    let after : IsWide p eps b e = IsWide-from_pair p eps b e ascends pair.to_end run.inside in
    let gap : IsWide p eps j e = IsWide-from_pair p eps j e ascends to run.inside in
    let fits = rising_line_fits p eps s e a b wide.positive ascends (omega (arith, run.inside)) run.steep
    (λ low high other.
    flat_at_most_steep p eps s e low high a b ascends (omega (arith, run.inside)) run.fits other pair) in
    let near = IsWithin-above p eps (rational (rising_line p eps a b) wide.positive) j (fits j from to) in
    let above : (p.y b + 2 * eps - p.y a) * p.x j + p.y a * (p.x b - p.x a)
    ≤ (p.y b + 2 * eps - p.y a) * p.x a + (p.x b - p.x a) * p.y j + 2 * ((p.x b - p.x a) * eps) =
    omega (arith, ints, near, difference_times (p.y a) eps (p.x b - p.x a)) in
    let sums = products_le-out
    (p.y e) (p.y b + 2 * eps) (p.x b - p.x a) (p.y b + 2 * eps) (p.y a) (p.x e - p.x b) reaches.at_most in
    record {
      at_most = products_le-in (p.y e) (p.y j + 2 * eps) (p.x b - p.x a) (p.y b + 2 * eps) (p.y a) (p.x e - p.x j)
          (over_from (p.y b + 2 * eps - p.y a) (p.y a) (p.y b)
          (p.y j) (p.y e) eps (p.x b - p.x a) (p.x e - p.x b) (p.x e - p.x j) (p.x a) (p.x b) (p.x j) (p.x e)
          wide.climbs wide.spans after.spans gap.spans above sums);
    }

-- where the place isn't under the flat pair, no steep slope up to it is below the flat one
steep_up_to : (p : Points) (eps s e a b c d j : ℕ) → IsFollowed p eps s e a b c d → s ≤ j → j < e →
    IsAtMost (flat_slope p eps c d) (steep_slope p eps d e) → IsAtMost (flat_slope p eps c d) (steep_slope p eps j e)
steep_up_to p eps s e a b c d j run from to reaches =
    let ascends = run.ascends in
    let pair = run.flat.pair in
    let width = p.x d - p.x c in
    let after = p.x e - p.x d in
    let gap = p.x e - p.x j in
    let wide : p.x c < p.x d = ascends.x_rises c d pair.rises (omega (arith, pair.to_end, run.inside)) in
    let further : p.x d < p.x e = ascends.x_rises d e pair.to_end run.inside in
    let apart : p.x j < p.x e = ascends.x_rises j e to run.inside in
    let sums = products_le-out (p.y d) (p.y c + 2 * eps) after (p.y e + 2 * eps) (p.y d) width reaches.at_most in
    record {
      at_most = products_le-in (p.y d) (p.y c + 2 * eps) gap (p.y e + 2 * eps) (p.y j) width (elim (cases_order j c) [
        | inl same ↦
            let here : p.x j ≡ p.x c = ap p.x same in
            let level : p.y j ≡ p.y c = ap p.y same in
            under_right
            (p.y c) (p.y d) (p.y j) (p.y e) eps width after gap 0 (omega arith) (rw level (omega arith)) sums
        | inr (inl left) ↦
            let step : p.x j < p.x c = ascends.x_rises j c left (omega (arith, pair.rises, pair.to_end, run.inside)) in
            let below = products_le-out (p.y d) (p.y c + 2 * eps) (p.x c - p.x j) (p.y c + 2 * eps) (p.y j) width
            (flat_at_most_steep p eps s e c d j c ascends (omega (arith, run.inside)) run.fits pair
            (record { from_start = from; rises = left; to_end = omega (arith, pair.rises, pair.to_end) })).at_most in
            under_left (p.y c) (p.y d) (p.y j) (p.y e) eps width after gap (p.x c - p.x j) (omega arith) below sums
        | inr (inr right) ↦
            let step : p.x c < p.x j = ascends.x_rises c j right (omega (arith, run.inside)) in
            let below = products_le-out (p.y j) (p.y c + 2 * eps) width (p.y d) (p.y c + 2 * eps) (p.x j - p.x c)
            (run.flat.greatest c j (record { from_start = pair.from_start; rises = right; to_end = to })).at_most in
            under_right (p.y c) (p.y d) (p.y j) (p.y e) eps width after gap (p.x j - p.x c) (omega arith) below sums
      ]);
    }

-- where the place is neither over the steep nor under the flat pair,
-- no flat slope of the run with the place is above a steep one
flat_at_most_steep-longer : (p : Points) (eps s e a b c d : ℕ) → IsFollowed p eps s e a b c d →
    IsAtMost (flat_slope p eps b e) (steep_slope p eps a b) → IsAtMost (flat_slope p eps c d) (steep_slope p eps d e) →
    (i j k l : ℕ) →
    IsPair s (e + 1) i j → IsPair s (e + 1) k l → IsAtMost (flat_slope p eps i j) (steep_slope p eps k l)
flat_at_most_steep-longer p eps s e a b c d run over under i j k l first second =
    let ascends = run.ascends in
    let steep = run.steep in
    let flat = run.flat in
    elim (cases_eq j e) [
      | inl first_ends ↦ elim (cases_eq l e) [
        | inl second_ends ↦ rw (first_ends, second_ends)
            (both i k first.from_start (omega (arith, first.rises)) second.from_start (omega (arith, second.rises)))
        | inr before ↦
            let old : IsPair s e k l =
            record { from_start = second.from_start; rises = second.rises; to_end = omega (arith, second.to_end) } in
            rw first_ends (IsAtMost-trans (flat_slope p eps i e) (steep_slope p eps a b) (steep_slope p eps k l)
            (IsWide-from_pair p eps a b ascends steep.pair.rises
            (omega (arith, steep.pair.to_end, run.inside))).positive
            (flat_up_to p eps s e a b c d i run first.from_start (omega (arith, first.rises)) over)
            (steep.least k l old))
      ]
      | inr before ↦
          let old : IsPair s e i j =
          record { from_start = first.from_start; rises = first.rises; to_end = omega (arith, first.to_end) } in
          elim (cases_eq l e) [
            | inl second_ends ↦
                rw second_ends (IsAtMost-trans (flat_slope p eps i j) (flat_slope p eps c d) (steep_slope p eps k e)
                (IsWide-from_pair p eps c d ascends flat.pair.rises
                (omega (arith, flat.pair.to_end, run.inside))).positive
                (flat.greatest i j old)
                (steep_up_to p eps s e a b c d k run second.from_start (omega (arith, second.rises)) under))
            | inr earlier ↦
                flat_at_most_steep p eps s e i j k l ascends (omega (arith, run.inside)) run.fits old
                (record { from_start = second.from_start; rises = second.rises; to_end = omega (arith, second.to_end) })
          ]
    ]
  where
    both : (i k : ℕ) → s ≤ i → i < e → s ≤ k → k < e → IsAtMost (flat_slope p eps i e) (steep_slope p eps k e)
    both i k from_i to_i from_k to_k =
        let ascends = run.ascends in
        elim (cases_order i k) [
          | inl same ↦ rw same (flat_at_most_own_steep p eps k e)
          | inr (inl left) ↦
              let between : IsPair s e i k = record { from_start = from_i; rises = left; to_end = to_k } in
              flat_through p eps i k e (steep_slope p eps k e) ascends left to_k run.inside
              (IsAtMost-trans (flat_slope p eps i k) (flat_slope p eps c d) (steep_slope p eps k e)
              (IsWide-from_pair p eps c d ascends run.flat.pair.rises
              (omega (arith, run.flat.pair.to_end, run.inside))).positive
              (run.flat.greatest i k between) (steep_up_to p eps s e a b c d k run from_k to_k under))
              (IsAtMost-refl (steep_slope p eps k e))
          | inr (inr right) ↦
              let between : IsPair s e k i = record { from_start = from_k; rises = right; to_end = to_i } in
              steep_through p eps k i e (flat_slope p eps i e) ascends right to_i run.inside
              (IsAtMost-trans (flat_slope p eps i e) (steep_slope p eps a b) (steep_slope p eps k i)
              (IsWide-from_pair p eps a b ascends run.steep.pair.rises
              (omega (arith, run.steep.pair.to_end, run.inside))).positive
              (flat_up_to p eps s e a b c d i run from_i to_i over) (run.steep.least k i between))
              (IsAtMost-refl (flat_slope p eps i e))
        ]

-- some line fits the run with such a place
pub some_line-longer : (p : Points) (eps s e a b c d : ℕ) → IsFollowed p eps s e a b c d →
    IsAtMost (flat_slope p eps b e) (steep_slope p eps a b) →
    IsAtMost (flat_slope p eps c d) (steep_slope p eps d e) → SomeLineFits p eps s (e + 1)
some_line-longer p eps s e a b c d run not_over not_under =
    let pair = run.steep.pair in
    let longer = IsSteepPair-some p eps s
    (e + 1) run.ascends (omega (arith, pair.from_start, pair.rises, pair.to_end)) (omega (arith, run.inside)) in
    some_line-from_pairs p eps s (e + 1) longer.0 longer.1 run.ascends (omega (arith, run.inside)) longer.2
    (λ k l pair.
    flat_at_most_steep-longer p eps s e a b c d run not_over not_under k l longer.0 longer.1 pair longer.2.pair)

-- some line fits any two places
pub some_line-two_places : (p : Points) (eps s : ℕ) → IsAscending p → s + 2 ≤ p.count → SomeLineFits p eps s (s + 2)
some_line-two_places p eps s ascends inside =
    some_line-from_pairs p eps s (s + 2) s (s + 1) ascends inside (IsSteepPair-two_places p eps s) (λ c d pair.
    let low : c ≡ s = omega (arith, pair.from_start, pair.rises, pair.to_end) in
    let high : d ≡ s + 1 = omega (arith, pair.from_start, pair.rises, pair.to_end) in
    rw (low, high) (flat_at_most_own_steep p eps s (s + 1)))

-- a place over a pair of the run, or under one, ends it
pub IsOver-no_line : (p : Points) (eps s e a b : ℕ) →
    IsAscending p → e < p.count → IsPair s e a b → IsOver p eps a b e → SomeLineFits p eps s (e + 1) → ⊥
IsOver-no_line p eps s e a b ascends inside pair over fits =
    IsOver-out p eps a b e ascends pair.rises pair.to_end inside over
    (flat_at_most_steep p eps s (e + 1) b e a b ascends (omega arith) fits
    (record { from_start = omega (arith, pair.from_start, pair.rises); rises = pair.to_end; to_end = omega arith })
    (record { from_start = pair.from_start; rises = pair.rises; to_end = omega (arith, pair.to_end) }))

pub IsUnder-no_line : (p : Points) (eps s e c d : ℕ) →
    IsAscending p → e < p.count → IsPair s e c d → IsUnder p eps c d e → SomeLineFits p eps s (e + 1) → ⊥
IsUnder-no_line p eps s e c d ascends inside pair under fits =
    IsUnder-out p eps c d e ascends pair.rises pair.to_end inside under
    (flat_at_most_steep p eps s (e + 1) c d d e ascends (omega arith) fits
    (record { from_start = pair.from_start; rises = pair.rises; to_end = omega (arith, pair.to_end) })
    (record { from_start = omega (arith, pair.from_start, pair.rises); rises = pair.to_end; to_end = omega arith }))

-- a place isn't over the steep pair and under the flat one
pub sides_exclude : (p : Points) (eps s e a b c d : ℕ) →
    IsFollowed p eps s e a b c d → IsOver p eps a b e → IsUnder p eps c d e → ⊥
sides_exclude p eps s e a b c d run over under =
    let ascends = run.ascends in
    let steep = run.steep.pair in
    let flat = run.flat.pair in
    let order : IsAtMost (flat_slope p eps c d) (steep_slope p eps a b) =
    flat_at_most_steep p eps s e c d a b ascends (omega (arith, run.inside)) run.fits flat steep in
    let not_over = IsOver-out p eps a b e ascends steep.rises steep.to_end run.inside over in
    let not_under = IsUnder-out p eps c d e ascends flat.rises flat.to_end run.inside under in
    elim (IsAtMost-total (steep_slope p eps a b) (flat_slope p eps b e)) [
      | inr most ↦ not_over most
      | inl above ↦ elim (IsAtMost-total (steep_slope p eps d e) (flat_slope p eps c d)) [
        | inr most ↦ not_under most
        | inl below ↦ elim (cases_order b d) [
          | inl same ↦ not_over (IsAtMost-trans (flat_slope p eps b e) (steep_slope p eps b e) (steep_slope p eps a b)
              (IsWide-from_pair p eps b e ascends steep.to_end run.inside).positive (flat_at_most_own_steep p eps b e)
              (IsAtMost-trans (steep_slope p eps b e) (flat_slope p eps c d) (steep_slope p eps a b)
              (IsWide-from_pair p eps c d ascends flat.rises (omega (arith, flat.to_end, run.inside))).positive
              (rw same below) order))
          | inr (inl left) ↦
              not_over (flat_through p eps b d e (steep_slope p eps a b) ascends left flat.to_end run.inside
              (flat_at_most_steep p eps s e b d a b ascends (omega (arith, run.inside)) run.fits
              (record { from_start = omega (arith, steep.from_start, steep.rises); rises = left; to_end = flat.to_end })
              steep)
              (IsAtMost-trans (steep_slope p eps d e) (flat_slope p eps c d) (steep_slope p eps a b)
              (IsWide-from_pair p eps c d ascends flat.rises (omega (arith, flat.to_end, run.inside))).positive
              below order))
          | inr (inr right) ↦
              not_under (steep_through p eps d b e (flat_slope p eps c d) ascends right steep.to_end run.inside
              (flat_at_most_steep p eps s e c d d b ascends (omega (arith, run.inside)) run.fits flat
              (record
              { from_start = omega (arith, flat.from_start, flat.rises); rises = right; to_end = steep.to_end }))
              (IsAtMost-trans (flat_slope p eps c d) (steep_slope p eps a b) (flat_slope p eps b e)
              (IsWide-from_pair p eps a b ascends steep.rises (omega (arith, steep.to_end, run.inside))).positive
              order above))
        ]
      ]
    ]
