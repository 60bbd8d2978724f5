-- The gaps of a steep and of a flat pair's line, by the slopes of pairs.
--
-- Main results: `HasSteepPair-from_gaps` and `gaps-from_has_steep`
-- (each place is allowed exactly where the pair is the steep one
-- and some line fits), and the same of the flat pair. Slopes are compared by cross products, cleared of differences.
use Rattle.std.proofs.Common.{◌≡◌, ℕ, ◌+◌, ◌*◌, ◌-◌, ◌^◌, ◌<◌, ◌≤◌, pos, ◌-ℤ◌, ap, sym, subst, arith}
use Rattle.std.proofs.Math.Nat.{mul-le-mul_right}
use Rattle.std.proofs.lemmas.Int.{ints}
use borrow.Author.Differences.{up, down}
use Rattle.exact_cross.specs.Points.{Points, IsAscending}
use Rattle.exact_cross.specs.Lines.{IsWithin, SomeLineFits}
use Rattle.exact_cross.specs.Steep.{IsPair, IsSteepPair, IsFlatPair}
use Rattle.exact_cross.proofs.CallerLemmas.{products_le-out, products_le-in, IsWithin-in}
use Rattle.exact_cross.proofs.CallerLemmas.{flat_at_most_steep, some_line-one_place}
use Rattle.cut_witness.specs.Pairs.{HasSteepPair, HasFlatPair, steep_gap, flat_gap}
use Rattle.cut_witness.proofs.Gaps.{AllAllow, first_of_ties, allows-from_pairs}

-- the line (n1 - n2) * x + (k1 - k2), over w, within eps of y at x
line_within : (p : Points) (eps j n1 n2 k1 k2 w : ℕ) (positive : 0 < w) →
    n1 * p.x j + k1 ≤ n2 * p.x j + k2 + w * p.y j + w * eps → n2 * p.x j + k2 + w * p.y j ≤ n1 * p.x j + k1 + w * eps →
    IsWithin p eps (record { num = pos n1 -ℤ pos n2; icpt = pos k1 -ℤ pos k2; den = w; positive = positive }) j
line_within p eps j n1 n2 k1 k2 w positive above below =
    let slope : up (pos n1 -ℤ pos n2) + n2 ≡ down (pos n1 -ℤ pos n2) + n1 = omega (arith, ints) in
    let height : up (pos k1 -ℤ pos k2) + k2 ≡ down (pos k1 -ℤ pos k2) + k1 = omega (arith, ints) in
    let at : (up (pos n1 -ℤ pos n2) + n2) * p.x j
    ≡ (down (pos n1 -ℤ pos n2) + n1) * p.x j = ap (λ (t : ℕ). t * p.x j) slope in
    IsWithin-in p eps (record { num = pos n1 -ℤ pos n2; icpt = pos k1 -ℤ pos k2; den = w; positive = positive }) j
    (omega (arith, at, height, above)) (omega (arith, at, height, below))

-- what two places c before d, and the pair, say of each other
record Climbs (p : Points) (a b c d : ℕ) : Type 0 where
  width : 0 < p.x b - p.x a
  climb : p.y b - p.y a + p.y a ≡ p.y b
  gap : p.x d ≡ p.x c + (p.x d - p.x c)

climbs_of : (p : Points) (e a b c d : ℕ) →
    IsAscending p → e ≤ p.count → a < b → b < e → c < d → d < e → Climbs p a b c d
climbs_of p e a b c d ascends inside rises to rises' to' =
    let right : p.x a < p.x b = ascends.x_rises a b rises (omega arith) in
    let high : p.y a ≤ p.y b = ascends.y_never_falls a b (omega arith) (omega arith) in
    let right' : p.x c < p.x d = ascends.x_rises c d rises' (omega arith) in
    record { width = omega arith; climb = omega arith; gap = omega arith }

-- the differences of the gaps of a steep pair at c and d, and cross products
module _ (ya yb yc yd eps w g xa xc xd climb : ℕ) (climbs : climb + ya ≡ yb) (right : xd ≡ xc + g) where
  steep_rises : (yb + 2 * eps) * g + yc * w ≤ (yd + 2 * eps) * w + ya * g →
      ya * w + (climb + 2 * eps) * xd + (yc * w + (climb + 2 * eps) * xa)
      ≤ ya * w + (climb + 2 * eps) * xc + (yd * w + (climb + 2 * eps) * xa) + 2 * eps * w
  steep_rises h = omega (arith, h, ap (λ (t : ℕ). (climb + 2 * eps) * t) right, ap (λ (t : ℕ). t * g) climbs)

  steep_rises-out : ya * w + (climb + 2 * eps) * xd + (yc * w + (climb + 2 * eps) * xa)
      ≤ ya * w + (climb + 2 * eps) * xc + (yd * w + (climb + 2 * eps) * xa) + 2 * eps * w →
      (yb + 2 * eps) * g + yc * w ≤ (yd + 2 * eps) * w + ya * g
  steep_rises-out h = omega (arith, h, ap (λ (t : ℕ). (climb + 2 * eps) * t) right, ap (λ (t : ℕ). t * g) climbs)

  steep_ties : ya * w + (climb + 2 * eps) * xc + (yd * w + (climb + 2 * eps) * xa) + 2 * eps * w
      ≤ ya * w + (climb + 2 * eps) * xd + (yc * w + (climb + 2 * eps) * xa) →
      (yd + 2 * eps) * w + ya * g ≤ (yb + 2 * eps) * g + yc * w
  steep_ties h = omega (arith, h, ap (λ (t : ℕ). (climb + 2 * eps) * t) right, ap (λ (t : ℕ). t * g) climbs)

  steep_ties-out : (yd + 2 * eps) * w + ya * g ≤ (yb + 2 * eps) * g + yc * w →
      ya * w + (climb + 2 * eps) * xc + (yd * w + (climb + 2 * eps) * xa) + 2 * eps * w
      ≤ ya * w + (climb + 2 * eps) * xd + (yc * w + (climb + 2 * eps) * xa)
  steep_ties-out h = omega (arith, h, ap (λ (t : ℕ). (climb + 2 * eps) * t) right, ap (λ (t : ℕ). t * g) climbs)

  steep_falls : yd * w + ya * g ≤ (yb + 2 * eps) * g + (yc + 2 * eps) * w →
      ya * w + (climb + 2 * eps) * xc + (yd * w + (climb + 2 * eps) * xa)
      ≤ ya * w + (climb + 2 * eps) * xd + (yc * w + (climb + 2 * eps) * xa) + 2 * eps * w
  steep_falls h = omega (arith, h, ap (λ (t : ℕ). (climb + 2 * eps) * t) right, ap (λ (t : ℕ). t * g) climbs)

  flat_rises : yd * w + (ya + 2 * eps) * g ≤ yb * g + (yc + 2 * eps) * w →
      yd * w + climb * xa + 2 * eps * xd + (ya * w + climb * xc + 2 * eps * xa)
      ≤ yc * w + climb * xa + 2 * eps * xc + (ya * w + climb * xd + 2 * eps * xa) + 2 * eps * w
  flat_rises h =
      omega (arith, h, ap (λ (t : ℕ). climb * t) right, ap (λ (t : ℕ). 2 * eps * t) right, ap (λ (t : ℕ). t * g) climbs)

  flat_rises-out : yd * w + climb * xa + 2 * eps * xd + (ya * w + climb * xc + 2 * eps * xa)
      ≤ yc * w + climb * xa + 2 * eps * xc + (ya * w + climb * xd + 2 * eps * xa) + 2 * eps * w →
      yd * w + (ya + 2 * eps) * g ≤ yb * g + (yc + 2 * eps) * w
  flat_rises-out h =
      omega (arith, h, ap (λ (t : ℕ). climb * t) right, ap (λ (t : ℕ). 2 * eps * t) right, ap (λ (t : ℕ). t * g) climbs)

  flat_ties : yc * w + climb * xa + 2 * eps * xc + (ya * w + climb * xd + 2 * eps * xa) + 2 * eps * w
      ≤ yd * w + climb * xa + 2 * eps * xd + (ya * w + climb * xc + 2 * eps * xa) →
      yb * g + (yc + 2 * eps) * w ≤ yd * w + (ya + 2 * eps) * g
  flat_ties h =
      omega (arith, h, ap (λ (t : ℕ). climb * t) right, ap (λ (t : ℕ). 2 * eps * t) right, ap (λ (t : ℕ). t * g) climbs)

  flat_ties-out : yb * g + (yc + 2 * eps) * w ≤ yd * w + (ya + 2 * eps) * g →
      yc * w + climb * xa + 2 * eps * xc + (ya * w + climb * xd + 2 * eps * xa) + 2 * eps * w
      ≤ yd * w + climb * xa + 2 * eps * xd + (ya * w + climb * xc + 2 * eps * xa)
  flat_ties-out h =
      omega (arith, h, ap (λ (t : ℕ). climb * t) right, ap (λ (t : ℕ). 2 * eps * t) right, ap (λ (t : ℕ). t * g) climbs)

  flat_falls : yb * g + yc * w ≤ (yd + 2 * eps) * w + (ya + 2 * eps) * g →
      yc * w + climb * xa + 2 * eps * xc + (ya * w + climb * xd + 2 * eps * xa)
      ≤ yd * w + climb * xa + 2 * eps * xd + (ya * w + climb * xc + 2 * eps * xa) + 2 * eps * w
  flat_falls h =
      omega (arith, h, ap (λ (t : ℕ). climb * t) right, ap (λ (t : ℕ). 2 * eps * t) right, ap (λ (t : ℕ). t * g) climbs)

-- the ends of the gaps
abbrev pub steep_low : Points → ℕ → ℕ → ℕ → ℕ → ℕ
steep_low p eps a b j = (steep_gap p eps a b j).lower

abbrev pub steep_up : Points → ℕ → ℕ → ℕ → ℕ → ℕ
steep_up p eps a b j = (steep_gap p eps a b j).upper

abbrev pub flat_low : Points → ℕ → ℕ → ℕ → ℕ → ℕ
flat_low p eps a b j = (flat_gap p eps a b j).lower

abbrev pub flat_up : Points → ℕ → ℕ → ℕ → ℕ → ℕ
flat_up p eps a b j = (flat_gap p eps a b j).upper

abbrev pub most_of : Points → ℕ → ℕ → ℕ → ℕ
most_of p eps a b = 2 * eps * (p.x b - p.x a)

abbrev pub SteepAllow : Points → ℕ → ℕ → ℕ → ℕ → ℕ → Type 0
SteepAllow p eps s e a b = AllAllow (steep_low p eps a b) (steep_up p eps a b) (most_of p eps a b) s e a b

abbrev pub FlatAllow : Points → ℕ → ℕ → ℕ → ℕ → ℕ → Type 0
FlatAllow p eps s e a b = AllAllow (flat_low p eps a b) (flat_up p eps a b) (most_of p eps a b) s e a b

module _ (p : Points) (eps s e a b : ℕ) (ascends : IsAscending p) (inside : e ≤ p.count) (pair : IsPair s e a b) where
  own : (c d : ℕ) → IsPair s e c d → Climbs p a b c d
  own c d other = climbs_of p e a b c d ascends inside pair.rises pair.to_end other.rises other.to_end

  -- a line that the steep pair's gaps allow fits the run
  steep_fits : SteepAllow p eps s e a b → SomeLineFits p eps s e
  steep_fits allow =
      let here = own a b pair in
      let w = p.x b - p.x a in
      let rise = p.y b - p.y a + 2 * eps in (
        record {
          num = pos rise -ℤ pos 0;
          icpt = pos (p.y a * w) -ℤ pos (eps * w + rise * p.x a);
          den = w;
          positive = here.width;
        },
        λ j from to. let at = allow j from to in
            line_within p eps j rise 0 (p.y a * w)
            (eps * w + rise * p.x a) w here.width (omega (arith, at.not_above)) (omega (arith, at.not_below)),
      )

  flat_fits : FlatAllow p eps s e a b → SomeLineFits p eps s e
  flat_fits allow =
      let here = own a b pair in
      let w = p.x b - p.x a in
      let climb = p.y b - p.y a in (
        record {
          num = pos climb -ℤ pos (2 * eps);
          icpt = pos (p.y a * w + eps * w + 2 * eps * p.x a) -ℤ pos (climb * p.x a);
          den = w;
          positive = here.width;
        },
        λ j from to. let at = allow j from to in
            line_within p eps j climb (2 * eps) (p.y a * w + eps * w + 2 * eps * p.x a)
            (climb * p.x a) w here.width (omega (arith, at.not_below)) (omega (arith, at.not_above)),
      )

  -- and the pair is the steep pair
  IsSteepPair-from_gaps : SteepAllow p eps s e a b → IsSteepPair p eps s e a b
  IsSteepPair-from_gaps allow = record {
    pair = pair;
    least = λ c d other.
        let here = own c d other in
        let at_c = allow c other.from_start (omega (arith, other.rises, other.to_end)) in
        let at_d = allow d (omega (arith, other.from_start, other.rises)) other.to_end in
        record {
          at_most = products_le-in (p.y b + 2 * eps) (p.y a) (p.x d - p.x c) (p.y d + 2 * eps) (p.y c) (p.x b - p.x a)
              (steep_rises-out (p.y a) (p.y b) (p.y c) (p.y d) eps
              (p.x b - p.x a) (p.x d - p.x c) (p.x a) (p.x c) (p.x d) (p.y b - p.y a) here.climb here.gap
              (omega (arith, at_c.not_below, at_d.not_above)));
        };
    first = λ c d other ties.
        let here = own c d other in
        first_of_ties (steep_low p eps a b) (steep_up p eps a b) (most_of p eps a b) s e a b allow c d other
        (steep_ties-out (p.y a) (p.y b) (p.y c)
        (p.y d) eps (p.x b - p.x a) (p.x d - p.x c) (p.x a) (p.x c) (p.x d) (p.y b - p.y a) here.climb here.gap
        (products_le-out
        (p.y d + 2 * eps) (p.y c) (p.x b - p.x a) (p.y b + 2 * eps) (p.y a) (p.x d - p.x c) ties.at_most));
  }

  IsFlatPair-from_gaps : FlatAllow p eps s e a b → IsFlatPair p eps s e a b
  IsFlatPair-from_gaps allow = record {
    pair = pair;
    greatest = λ c d other.
        let here = own c d other in
        let at_c = allow c other.from_start (omega (arith, other.rises, other.to_end)) in
        let at_d = allow d (omega (arith, other.from_start, other.rises)) other.to_end in
        record {
          at_most = products_le-in (p.y d) (p.y c + 2 * eps) (p.x b - p.x a) (p.y b) (p.y a + 2 * eps) (p.x d - p.x c)
              (flat_rises-out (p.y a) (p.y b) (p.y c) (p.y d) eps
              (p.x b - p.x a) (p.x d - p.x c) (p.x a) (p.x c) (p.x d) (p.y b - p.y a) here.climb here.gap
              (omega (arith, at_c.not_below, at_d.not_above)));
        };
    first = λ c d other ties.
        let here = own c d other in
        first_of_ties (flat_low p eps a b) (flat_up p eps a b) (most_of p eps a b) s e a b allow c d other
        (flat_ties-out (p.y a) (p.y b) (p.y c)
        (p.y d) eps (p.x b - p.x a) (p.x d - p.x c) (p.x a) (p.x c) (p.x d) (p.y b - p.y a) here.climb here.gap
        (products_le-out
        (p.y b) (p.y a + 2 * eps) (p.x d - p.x c) (p.y d) (p.y c + 2 * eps) (p.x b - p.x a) ties.at_most));
  }

  -- the steep pair of a run that some line fits allows each place
  gaps-from_steep : SomeLineFits p eps s e → IsSteepPair p eps s e a b → SteepAllow p eps s e a b
  gaps-from_steep fits steep =
      let self = own a b pair in
      allows-from_pairs (steep_low p eps a b) (steep_up p eps a b) (most_of p eps a b) s e a b (record {
        pair = pair;
        at_a = omega arith;
        at_b = omega (
          arith,
          ap (λ (t : ℕ). (p.y b - p.y a + 2 * eps) * t) self.gap,
          ap (λ (t : ℕ). t * (p.x b - p.x a)) self.climb,
        );
        rises = λ c d other.
            let here = own c d other in
            steep_rises (p.y a) (p.y b) (p.y c)
            (p.y d) eps (p.x b - p.x a) (p.x d - p.x c) (p.x a) (p.x c) (p.x d) (p.y b - p.y a) here.climb here.gap
            (products_le-out (p.y b + 2 * eps)
            (p.y a) (p.x d - p.x c) (p.y d + 2 * eps) (p.y c) (p.x b - p.x a) (steep.least c d other).at_most);
        falls = λ c d other.
            let here = own c d other in
            steep_falls (p.y a) (p.y b) (p.y c)
            (p.y d) eps (p.x b - p.x a) (p.x d - p.x c) (p.x a) (p.x c) (p.x d) (p.y b - p.y a) here.climb here.gap
            (products_le-out (p.y d) (p.y c + 2 * eps) (p.x b - p.x a) (p.y b + 2 * eps) (p.y a) (p.x d - p.x c)
            (flat_at_most_steep p eps s e c d a b ascends inside fits other pair).at_most);
        first = λ c d other ties.
            let here = own c d other in
            steep.first c d other (record {
              at_most =
                  products_le-in (p.y d + 2 * eps) (p.y c) (p.x b - p.x a) (p.y b + 2 * eps) (p.y a) (p.x d - p.x c)
                  (steep_ties (p.y a) (p.y b) (p.y c) (p.y d) eps
                  (p.x b - p.x a) (p.x d - p.x c) (p.x a) (p.x c) (p.x d) (p.y b - p.y a) here.climb here.gap ties);
            });
      })

  gaps-from_flat : SomeLineFits p eps s e → IsFlatPair p eps s e a b → FlatAllow p eps s e a b
  gaps-from_flat fits flat =
      let self = own a b pair in
      allows-from_pairs (flat_low p eps a b) (flat_up p eps a b) (most_of p eps a b) s e a b (record {
        pair = pair;
        at_a = omega arith;
        at_b = omega (
          arith,
          ap (λ (t : ℕ). (p.y b - p.y a) * t) self.gap,
          ap (λ (t : ℕ). 2 * eps * t) self.gap,
          ap (λ (t : ℕ). t * (p.x b - p.x a)) self.climb,
        );
        rises = λ c d other.
            let here = own c d other in
            flat_rises (p.y a) (p.y b) (p.y c)
            (p.y d) eps (p.x b - p.x a) (p.x d - p.x c) (p.x a) (p.x c) (p.x d) (p.y b - p.y a) here.climb here.gap
            (products_le-out (p.y d) (p.y c + 2 * eps)
            (p.x b - p.x a) (p.y b) (p.y a + 2 * eps) (p.x d - p.x c) (flat.greatest c d other).at_most);
        falls = λ c d other.
            let here = own c d other in
            flat_falls (p.y a) (p.y b) (p.y c)
            (p.y d) eps (p.x b - p.x a) (p.x d - p.x c) (p.x a) (p.x c) (p.x d) (p.y b - p.y a) here.climb here.gap
            (products_le-out (p.y b) (p.y a + 2 * eps) (p.x d - p.x c) (p.y d + 2 * eps) (p.y c) (p.x b - p.x a)
            (flat_at_most_steep p eps s e a b c d ascends inside fits pair other).at_most);
        first = λ c d other ties.
            let here = own c d other in
            flat.first c d other (record {
              at_most =
                  products_le-in (p.y b) (p.y a + 2 * eps) (p.x d - p.x c) (p.y d) (p.y c + 2 * eps) (p.x b - p.x a)
                  (flat_ties (p.y a) (p.y b) (p.y c) (p.y d) eps
                  (p.x b - p.x a) (p.x d - p.x c) (p.x a) (p.x c) (p.x d) (p.y b - p.y a) here.climb here.gap ties);
            });
      })

  pub HasSteepPair-from_gaps : s + 1 < e → SteepAllow p eps s e a b → HasSteepPair p eps s e a b
  HasSteepPair-from_gaps two allow = record {
    fits = steep_fits allow;
    pair = record { alone = λ one. absurd (omega arith); steep = λ more. IsSteepPair-from_gaps allow };
  }

  pub gaps-from_has_steep : s + 1 < e → HasSteepPair p eps s e a b → SteepAllow p eps s e a b
  gaps-from_has_steep two has = gaps-from_steep has.fits (has.pair.steep two)

  pub HasFlatPair-from_gaps : FlatAllow p eps s e a b → HasFlatPair p eps s e a b
  HasFlatPair-from_gaps allow = record { fits = flat_fits allow; pair = IsFlatPair-from_gaps allow }

  pub gaps-from_has_flat : HasFlatPair p eps s e a b → FlatAllow p eps s e a b
  gaps-from_has_flat has = gaps-from_flat has.fits has.pair

-- one place is the pair of its run
pub HasSteepPair-alone : (p : Points) (eps s e a b : ℕ) → e ≡ s + 1 → a ≡ s → b ≡ s → HasSteepPair p eps s e a b
HasSteepPair-alone p eps s e a b one low high = record {
  fits = subst (λ (n : ℕ). SomeLineFits p eps s n) (sym one) (some_line-one_place p eps s);
  pair = record { alone = λ _. (low, high); steep = λ more. absurd (omega arith) };
}

-- the sums fit 128 bits: heights of 33 bits, and x of 64
pub small_sum : (y w r x s : ℕ) →
    y < 2 ^ 32 → w < 2 ^ 64 → r < 2 ^ 33 → x < 2 ^ 64 → s < 2 ^ 33 → y * w + r * x + s * w < 2 ^ 128
small_sum y w r x s small wide steep far slack =
    let one : y * w ≤ 4294967296 * w = mul-le-mul_right w (omega arith) in
    let two : r * x ≤ 8589934592 * x = mul-le-mul_right x (omega arith) in
    let three : s * w ≤ 8589934592 * w = mul-le-mul_right w (omega arith) in
    omega arith

pub small_sums : (y w c x x' s : ℕ) → y < 2 ^ 32 →
    w < 2 ^ 64 → c < 2 ^ 32 → x < 2 ^ 64 → x' < 2 ^ 64 → s < 2 ^ 33 → y * w + c * x + s * x' + s * w < 2 ^ 128
small_sums y w c x x' s small wide climb far far' slack =
    let one : y * w ≤ 4294967296 * w = mul-le-mul_right w (omega arith) in
    let two : c * x ≤ 4294967296 * x = mul-le-mul_right x (omega arith) in
    let three : s * x' ≤ 8589934592 * x' = mul-le-mul_right x' (omega arith) in
    let four : s * w ≤ 8589934592 * w = mul-le-mul_right w (omega arith) in
    omega arith
