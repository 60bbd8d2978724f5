-- The steep pair of a run with one more place: the old one where the new point
-- isn't under its line, lifted, and else the tangent's place with the new one.
use Rattle.std.proofs.Common.{◌≡◌, ◌⊎◌, ℕ, zero, suc, ◌+◌, ◌*◌, ◌-◌, ◌^◌, ◌<◌}
use Rattle.std.proofs.Common.{◌≤◌, pos, ◌-ℤ◌, inl, inr, refl, sym, arith}
use Rattle.std.proofs.lemmas.Int.{ints}
use Rattle.std.proofs.lemmas.Bool.{cases_lt}
use borrow.Author.Differences.{up, down}
use Rattle.exact_cross.specs.declared.slope.Slope.{Slope}
use Rattle.exact_cross.specs.Points.{Points}
use Rattle.exact_cross.specs.Slopes.{IsAtMost, steep_slope}
use Rattle.exact_cross.specs.Steep.{IsPair}
use Rattle.exact_cross.proofs.CallerLemmas.{IsAtMost-trans, IsAtMost-total, IsAtMost-out}
use Rattle.hulls.specs.Slopes.{steepest}
use Rattle.hulls.specs.Hull.{IsUnderLine, IsUpperHull, IsPairOf, IsFittable, IsPassed, RiseRight}
use Rattle.hulls.proofs.RaisedSlopes.{at_most-from_line, under-from_at_most, under_own_line, steeper_left}
use Rattle.hulls.proofs.Tangents.{IsTangent, IsBent-from_hull, bent_rises, bent_before, place_before}
use Rattle.hulls.proofs.Tangents.{not_right, first_under, least_under_hull, less_under_hull, shadow-from}

-- the lower place is one of the run
pub lower_place : (q : Points) (eps s e a b : ℕ) (slope : Slope) → IsPairOf q eps s e a b slope → (s ≤ a) × (a < e)
lower_place q eps s e a b slope pair = elim (cases_lt (s + 1) e) [
  | inl more ↦ let places = (pair.pair.steep more).pair in
      (places.from_start, omega (arith, places.rises, places.to_end))
  | inr one ↦ let alone = pair.pair.alone (omega (arith, pair.some)) in
      (omega (arith, alone.0), omega (arith, alone.0, pair.some))
]

-- the slope's run is positive
pub slope_positive : (q : Points) (eps s e a b : ℕ) (slope : Slope) →
    RiseRight q → e ≤ q.count → IsPairOf q eps s e a b slope → 0 < slope.run
slope_positive q eps s e a b slope right inside pair = elim (cases_lt (s + 1) e) [
  | inl more ↦
      let places = (pair.pair.steep more).pair in
      let less : q.x a < q.x b = right.rises a b places.rises (omega (arith, places.to_end)) in
      rw (pair.more more) (omega arith)
  | inr one ↦ rw (pair.one (omega (arith, pair.some))) (omega arith)
]

-- no two points are as steep as the first slope
pub steepest_above : (q : Points) (eps a e : ℕ) →
    q.x a < q.x e → q.y e < 2 ^ 32 → eps ≤ 1048576 → IsAtMost steepest (steep_slope q eps a e) → ⊥
steepest_above q eps a e right low bounded most =
    let climbs : up (pos (q.y e + 2 * eps) -ℤ pos (q.y a)) + q.y a
    ≡ down (pos (q.y e + 2 * eps) -ℤ pos (q.y a)) + (q.y e + 2 * eps) = omega (arith, ints) in
    let sums : 1099511627776 * (q.x e - q.x a) + down (pos (q.y e + 2 * eps) -ℤ pos (q.y a)) * 1
    ≤ up (pos (q.y e + 2 * eps) -ℤ pos (q.y a)) * 1 + 0 * (q.x e - q.x a) =
    IsAtMost-out steepest (steep_slope q eps a e) most in
    omega (arith, climbs, sums)

-- a pair of the run s..m + 1 is one of the run s..e, or ends with
-- the place m and begins before e, or one of its places is between
old_or_new : (s e m c d : ℕ) →
    IsPair s (m + 1) c d → IsPair s e c d ⊎ (d ≡ m) × (s ≤ c) × (c < e) ⊎ (e ≤ d) × (d ≡ m → e ≤ c)
old_or_new s e m c d pair = elim (cases_lt d e) [
  | inl old ↦ inl (record { from_start = pair.from_start; rises = pair.rises; to_end = old })
  | inr late ↦ elim (cases_lt d m) [
    | inl between ↦ inr (inr (late, λ at_end. absurd (omega arith)))
    | inr new ↦ elim (cases_lt c e) [
      | inl early ↦ inr (inl (omega (arith, pair.to_end), pair.from_start, early))
      | inr passed ↦ inr (inr (late, λ at_end. passed))
    ]
  ]
]

-- the line that the run s..e and the place m are under has all between under it
under_all : (q : Points) (eps s e m a : ℕ) (slope : Slope) →
    IsPassed q eps s e m → s < e → ((c : ℕ) → s ≤ c → c < e → IsUnderLine q a slope c) → IsUnderLine q a slope m →
    (c : ℕ) → s ≤ c → c < m + 1 → IsUnderLine q a slope c
under_all q eps s e m a slope passed some old new c from to = elim (cases_lt c e) [
  | inl before ↦ old c from before
  | inr late ↦ elim (cases_lt c m) [
    | inl between ↦ passed.under a slope (old (e - 1) (omega arith) (omega arith)) new c late between
    | inr here ↦ let same : c ≡ m = omega arith in rw same new
  ]
]

-- the pair stays where its slope is at most that from its lower place to the lifted new point
pub IsPairOf-keeps : (q : Points) (eps s e m a b : ℕ) (slope : Slope) →
    RiseRight q → m < q.count → q.y m < 2 ^ 32 → eps ≤ 1048576 → IsPassed q eps s e m →
    IsPairOf q eps s e a b slope →
    IsUnderLine q a slope m → IsAtMost slope (steep_slope q eps a m) → IsPairOf q eps s (m + 1) a b slope
IsPairOf-keeps q eps s e m a b slope right inside low bounded passed pair not_over most =
    let lower = lower_place q eps s e a b slope pair in
    let order = passed.order in
    let x_am : q.x a < q.x m = right.rises a m (omega (arith, lower.1)) inside in
    let several : s + 1 < e = elim (cases_lt (s + 1) e) [
      | inl more ↦ more
      | inr one ↦ absurd (steepest_above q eps a m x_am low bounded (rw (pair.one (omega (arith, pair.some))) at most))
    ] in
    let old = pair.pair.steep several in
    let own = pair.more several in
    let most_own : IsAtMost (steep_slope q eps a b) (steep_slope q eps a m) = rw own at most in
    let to_new : (c : ℕ) → s ≤ c → c < e → IsAtMost (steep_slope q eps a b) (steep_slope q eps c m) = λ c from to.
    at_most-from_line q eps a c m (steep_slope q eps a b)
    (omega arith) (not_right q c m right (omega arith) inside) (rw own at (pair.under c from to)) most_own in
    record {
      some = omega arith;
      pair = record {
        alone = λ e'. absurd (omega arith);
        steep = λ _. record {
          pair = record {
            from_start = old.pair.from_start;
            rises = old.pair.rises;
            to_end = omega (arith, old.pair.to_end);
          };
          least = λ c d other. elim (old_or_new s e m c d other) [
            | inl before ↦ old.least c d before
            | inr (inl new) ↦ rw (new.0) (to_new c new.1 new.2)
            | inr (inr between) ↦ passed.least (steep_slope q eps a b) old.least to_new c d other between.0 between.1
          ];
          first = λ c d other ties. elim (old_or_new s e m c d other) [
            | inl before ↦ old.first c d before ties
            | inr (inl new) ↦ inl (omega (arith, new.0, old.pair.to_end))
            | inr (inr between) ↦ inl (omega (arith, between.0, old.pair.to_end))
          ];
        };
      };
      one = λ e'. absurd (omega arith);
      more = λ _. own;
      under = under_all q eps s e m a slope passed pair.some pair.under not_over;
    }

-- the slope from each place of the run is at least the tangent's, and equal to it from none before
-- the tangent's place: by the places up to `n`, since a shadowed one is no better than one before it
pub record IsBest (q : Points) (eps e at c : ℕ) : Type 0 where
  pub least : IsAtMost (steep_slope q eps at e) (steep_slope q eps c e)
  pub first : IsAtMost (steep_slope q eps c e) (steep_slope q eps at e) → at ≤ c

best_up_to : (q : Points) (eps s : ℕ) (v : ℕ → ℕ) (t last e m at : ℕ) → RiseRight q →
    e ≤ m → m < q.count → IsFittable q eps s e m → IsUpperHull q eps s v t last e → IsTangent q eps v t last m at →
    ((c : ℕ) → s ≤ c → c < v t → IsAtMost (steep_slope q eps c m) (steep_slope q eps (v t) m) → ⊥) →
    (n c : ℕ) → c < n → s ≤ c → c < e → IsBest q eps m (v at) c
best_up_to q eps s v t last e m at right further inside servable hull tangent left zero c below from to =
    absurd (omega arith)
best_up_to q eps s v t last e m at right further inside servable hull tangent left (suc n) c below from to =
    let bent = IsBent-from_hull q eps s v t last e m further hull in
    let before : v at < m = bent_before q v t last m at bent tangent.onward tangent.inside in
    let run_at : 0 < (steep_slope q eps (v at) m).run =
    let less : q.x (v at) < q.x m = right.rises (v at) m before inside in omega arith in
    let tangent_first : IsAtMost (steep_slope q eps (v at) m) (steep_slope q eps (v t) m) =
    least_under_hull q eps v t last m at (v t) right inside bent tangent (first_under q v t last m bent) in
    elim (cases_lt c (v t)) [
      | inl early ↦
          let apart = left c from early in
          let run_t : 0 < (steep_slope q eps (v t) m).run =
          let less : q.x (v t) < q.x m =
          right.rises (v t) m (bent_before q v t last m t bent (omega arith) hull.some) inside in omega arith in
          record {
            least = elim (IsAtMost-total (steep_slope q eps c m) (steep_slope q eps (v t) m)) [
              | inl less ↦ absurd (apart less)
              | inr more ↦ IsAtMost-trans (steep_slope q eps (v at) m)
                  (steep_slope q eps (v t) m) (steep_slope q eps c m) run_t tangent_first more
            ];
            first = λ ties. absurd
                (apart (IsAtMost-trans (steep_slope q eps c m)
                (steep_slope q eps (v at) m) (steep_slope q eps (v t) m) run_at ties tangent_first));
          }
      | inr on ↦ elim (hull.under c on to) [
        | inl under ↦ record {
          least = least_under_hull q eps v t last m at c right inside bent tangent under;
          first = λ ties. elim (cases_lt c (v at)) [
            | inl sooner ↦ absurd (less_under_hull q eps v t last m at c right inside bent tangent under sooner ties)
            | inr late ↦ late
          ];
        }
        | inr shadow ↦
            let behind = shadow-from q eps s c e m right to further inside servable shadow in
            let d = behind.0 in
            let best = best_up_to q eps s v t last e m at right further inside servable hull tangent left n d
            (omega (arith, behind.2)) behind.1 (omega (arith, behind.2)) in
            let run_d : 0 < (steep_slope q eps d m).run =
            let less : q.x d < q.x m = right.rises d m (omega (arith, behind.2)) inside in omega arith in
            record {
              least = IsAtMost-trans (steep_slope q eps (v at) m)
                  (steep_slope q eps d m) (steep_slope q eps c m) run_d best.least behind.3;
              first = λ ties.
                  let run_c : 0 < (steep_slope q eps c m).run =
                  let less : q.x c < q.x m = right.rises c m (omega arith) inside in omega arith in
                  omega (
                    arith,
                    best.first
                        (IsAtMost-trans (steep_slope q eps d m)
                        (steep_slope q eps c m) (steep_slope q eps (v at) m) run_c behind.3 ties),
                    behind.2,
                  );
            }
      ]
    ]

-- the tangent's place and the new one are the pair, where the slope from the lower place is less than the pair's
pub IsPairOf-takes : (q : Points) (eps s e m b : ℕ) (slope : Slope) (v : ℕ → ℕ) (t last at : ℕ) →
    RiseRight q → m < q.count → IsPassed q eps s e m → IsFittable q eps s e m →
    IsPairOf q eps s e (v t) b slope → IsUpperHull q eps s v t last e →
    IsTangent q eps v t last m at → (IsAtMost slope (steep_slope q eps (v t) m) → ⊥) →
    IsPairOf q eps s (m + 1) (v at) m (steep_slope q eps (v at) m)
IsPairOf-takes q eps s e m b slope v t last at right inside passed servable pair hull tangent below =
    let lower = lower_place q eps s e (v t) b slope pair in
    let order = passed.order in
    let bent = IsBent-from_hull q eps s v t last e m order hull in
    let onward = bent_rises q v t last m t at bent (omega arith) tangent.onward tangent.inside in
    let before : v at < e = place_before q eps s v t last e at hull tangent.onward tangent.inside in
    let positive : 0 < slope.run = slope_positive q eps s e (v t) b slope right (omega arith) pair in
    let new = steep_slope q eps (v at) m in
    let x_tm : q.x (v t) < q.x m = right.rises (v t) m (omega (arith, lower.1)) inside in
    let run_new : 0 < new.run = let less : q.x (v at) < q.x m = right.rises (v at) m (omega arith) inside in
    omega arith in
    let tangent_first : IsAtMost new (steep_slope q eps (v t) m) =
    least_under_hull q eps v t last m at (v t) right inside bent tangent (first_under q v t last m bent) in
    let under_old : IsAtMost (steep_slope q eps (v t) m) slope =
    elim (IsAtMost-total (steep_slope q eps (v t) m) slope) [ inl less ↦ less | inr more ↦ absurd (below more) ] in
    let new_least : IsAtMost new slope =
    IsAtMost-trans new (steep_slope q eps (v t) m) slope (omega arith) tangent_first under_old in
    let strictly : IsAtMost slope new → ⊥ =
    λ most. below (IsAtMost-trans slope new (steep_slope q eps (v t) m) run_new most tangent_first) in
    let several : (c d : ℕ) → IsPair s e c d → s + 1 < e =
    λ c d other. omega (arith, other.from_start, other.rises, other.to_end) in
    let old_least : (c d : ℕ) → IsPair s e c d → IsAtMost slope (steep_slope q eps c d) =
    λ c d other. rw (pair.more (several c d other)) ((pair.pair.steep (several c d other)).least c d other) in
    let new_old : (c d : ℕ) → IsPair s e c d → IsAtMost new (steep_slope q eps c d) =
    λ c d other. IsAtMost-trans new slope (steep_slope q eps c d) positive new_least (old_least c d other) in
    let old_greater : (c d : ℕ) → IsPair s e c d → IsAtMost (steep_slope q eps c d) new → ⊥ =
    λ c d other ties. strictly (IsAtMost-trans slope (steep_slope q eps c d) new
    (let less : q.x c < q.x d = right.rises c d other.rises (omega (arith, other.to_end)) in omega arith)
    (old_least c d other) ties) in
    let left :
    (c : ℕ) → s ≤ c → c < v t → IsAtMost (steep_slope q eps c m) (steep_slope q eps (v t) m) → ⊥ = λ c from to.
    steeper_left q eps (v t) c m slope (right.rises c (v t) to (omega (arith, lower.1))) x_tm positive
    (pair.under c from (omega (arith, lower.1))) below in
    let best : (c : ℕ) → s ≤ c → c < e → IsBest q eps m (v at) c =
    λ c from to. best_up_to q eps s v t last e m at right order inside servable hull tangent left e c to from to in
    let to_new : (c : ℕ) → s ≤ c → c < e → IsAtMost new (steep_slope q eps c m) = λ c from to. (best c from to).least in
    record {
      some = omega arith;
      pair = record {
        alone = λ e'. absurd (omega (arith, pair.some));
        steep = λ _. record {
          pair = record { from_start = omega (arith, lower.0, onward); rises = omega arith; to_end = omega arith };
          least = λ c d other. elim (old_or_new s e m c d other) [
            | inl old ↦ new_old c d old
            | inr (inl last_place) ↦ rw (last_place.0) (to_new c last_place.1 last_place.2)
            | inr (inr between) ↦ passed.least new new_old to_new c d other between.0 between.1
          ];
          first = λ c d other ties. elim (old_or_new s e m c d other) [
            | inl old ↦ absurd (old_greater c d old ties)
            | inr (inl last_place) ↦
                inr (sym last_place.0, (best c last_place.1 last_place.2).first (rw (last_place.0) at ties))
            | inr (inr between) ↦ absurd (passed.less new old_greater to_new c d other between.0 between.1 ties)
          ];
        };
      };
      one = λ e'. absurd (omega (arith, pair.some));
      more = λ _. refl;
      under = under_all q eps s e m (v at) new passed pair.some
          (λ c from to. under-from_at_most q eps (v at) c m (not_right q (v at) m right (omega arith) inside)
          (not_right q c m right (omega arith) inside) (best c from to).least)
          (under_own_line q eps (v at) m (not_right q (v at) m right (omega arith) inside));
    }
