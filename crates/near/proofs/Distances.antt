-- The places within a distance of a centre are those of a box about it.
use Rattle.std.proofs.Common.{◌≡◌, ℕ, ◌+◌, ◌-◌, ◌*◌, ◌%◌, ◌^◌, ◌<◌, ◌≤◌, List, [], ◌∷◌, ◌++◌, length}
use Rattle.std.proofs.Common.{get_or, slice_index, map, All, min, max, refl, sym, ap, ◌∙◌, arith}
use Rattle.std.specs.List.{fold, range_with_len}
use Rattle.std.proofs.lemmas.List.{ext_get_or, get_or-map, length-map}
use Rattle.std.proofs.lemmas.List.Elements.{All-cons, All-head, All-tail}
use Rattle.std.proofs.lemmas.List.FromFn.{length-map-range_with_len, get_or-map-range_with_len}
use Rattle.zorder.specs.Codes.{IsCode, IsDimension, IsInRange, coordinate_bits}
use Rattle.std.proofs.Math.Pow.{pow_mono}
use Rattle.std.proofs.Math.Nat.{div-le_of_le-mul, mod-eq_of_lt}
use Rattle.zorder.specs.declared.regions.Region.{Region}
use Rattle.zorder.specs.Regions.{IsInside, IsRegion}
use Rattle.zorder.proofs.CallerLemmas.{coordinate_below}
use Rattle.near.specs.Around.{apart, box_around, distance}

-- ---- the greatest of some numbers

greatest_not_below : (a : ℕ) (xs : List ℕ) → a ≤ fold max a xs
greatest_not_below a [] = omega arith
greatest_not_below a (x ∷ xs) = omega (arith, greatest_not_below (max a x) xs)

greatest_bounds : (a : ℕ) (xs : List ℕ) → All (λ x. x ≤ fold max a xs) xs
greatest_bounds a [] = λ k d within. absurd (omega arith)
greatest_bounds a (x ∷ xs) = All-cons (λ y. y ≤ fold max (max a x) xs) x xs
    (omega (arith, greatest_not_below (max a x) xs)) (greatest_bounds (max a x) xs)

greatest_from : (a bound : ℕ) (xs : List ℕ) → a ≤ bound → All (λ x. x ≤ bound) xs → fold max a xs ≤ bound
greatest_from a bound [] first all = first
greatest_from a bound (x ∷ xs) first all =
    let here = All-head (λ y. y ≤ bound) x xs all in
    greatest_from (max a x) bound xs (omega arith) (All-tail (λ y. y ≤ bound) x xs all)

greatest_push : (a : ℕ) (xs : List ℕ) (y : ℕ) → fold max a (xs ++ y ∷ []) ≡ max (fold max a xs) y
greatest_push a [] y = refl
greatest_push a (x ∷ xs) y = greatest_push (max a x) xs y

-- the greatest difference of the first n coordinates
abbrev pub greatest_apart : ℕ → List ℕ → ℕ → ℕ → ℕ
greatest_apart d centre z n = fold max 0 (map (apart d centre z) (range_with_len 0 n))

pub distance-is : (d : ℕ) (centre : List ℕ) (z : ℕ) → distance d centre z ≡ greatest_apart d centre z d
unfolding distance
distance-is d centre z = refl

-- ---- a distance is at most a number just where each coordinate's is

pub apart_from_distance : (d : ℕ) (centre : List ℕ) (z c : ℕ) → c < d → apart d centre z c ≤ distance d centre z
unfolding distance
apart_from_distance d centre z c within =
    let all = map (apart d centre z) (range_with_len 0 d) in
    omega (
      arith,
      get_or-map-range_with_len (apart d centre z) 0 d c c 0 within (omega arith),
      greatest_bounds 0 all c 0 (omega (arith, length-map-range_with_len (apart d centre z) 0 d)),
    )

pub distance_from_apart : (d : ℕ) (centre : List ℕ) (z bound : ℕ) →
    ((c : ℕ) → c < d → apart d centre z c ≤ bound) → distance d centre z ≤ bound
unfolding distance
distance_from_apart d centre z bound each =
    greatest_from 0 bound (map (apart d centre z) (range_with_len 0 d)) (omega arith)
    (λ c e within.
    let within' : c < d = omega (arith, length-map-range_with_len (apart d centre z) 0 d) in
    omega (arith, get_or-map-range_with_len (apart d centre z) 0 d c c e within' (omega arith), each c within'))

-- ---- the box

module _ (d : ℕ) (centre : List ℕ) (reach : ℕ) (long : d ≤ length centre) where
  low_at : (c : ℕ) → c < d → slice_index (box_around d centre reach).low c ≡ slice_index centre c - reach
  low_at c within = get_or-map (λ value. value - reach) centre c 0 0 (omega arith)

  high_at : (c : ℕ) → c < d →
      slice_index (box_around d centre reach).high c ≡ min (slice_index centre c + reach) (2 ^ coordinate_bits d - 1)
  high_at c within = get_or-map (λ value. min (value + reach) (2 ^ coordinate_bits d - 1)) centre c 0 0 (omega arith)

  pub inside_from_distance : (z : ℕ) →
      IsDimension d → IsCode d z → distance d centre z ≤ reach → IsInside (box_around d centre reach) z
  inside_from_distance z is code near c within =
      let each = apart_from_distance d centre z c within in
      let below = coordinate_below d z is code c in (
        omega (arith, low_at c within),
        omega (arith, high_at c within),
      )

  pub distance_from_inside : (z : ℕ) → IsInside (box_around d centre reach) z → distance d centre z ≤ reach
  distance_from_inside z inside = distance_from_apart d centre z reach (λ c within.
      let between = inside c within in
      omega (arith, low_at c within, high_at c within, between.0, between.1))

  pub box_is_region : IsDimension d → IsInRange d centre → IsRegion (box_around d centre reach)
  box_is_region is range = record {
    dimension = is;
    low = λ c within. omega (arith, low_at c within, range c within);
    high = λ c within. omega (arith, high_at c within, range c within);
  }

-- a one shifted left, that still fits
pub shifted_one : (bits limit : ℕ) → limit < 2 ^ 64 → 2 ^ bits ≤ limit → 1 * 2 ^ bits % 2 ^ 64 ≡ 2 ^ bits
shifted_one bits limit small within =
    let one : 1 * 2 ^ bits ≡ 2 ^ bits = omega arith in
    let fits : 1 * 2 ^ bits < 2 ^ 64 = omega arith in
    mod-eq_of_lt fits ∙ one

filled : (f : ℕ → ℕ) (xs ys : List ℕ) →
    length ys ≡ length xs → ((k : ℕ) → k < length xs → get_or ys k 0 ≡ f (get_or xs k 0)) → ys ≡ map f xs
filled f xs ys long each = ext_get_or 0 ys (map f xs) (long ∙ sym (length-map xs f)) (λ k within.
    let within' : k < length xs = omega arith in
    each k within' ∙ sym (get_or-map f xs k 0 0 within'))

-- a region whose ends were set one by one
pub same_box : (d : ℕ) (centre : List ℕ) (reach : ℕ) (low high : List ℕ) →
    length low ≡ length centre → length high ≡ length centre
    → ((k : ℕ) → k < length centre → get_or low k 0 ≡ get_or centre k 0 - reach)
    → ((k : ℕ) → k < length centre → get_or high k 0 ≡ min (get_or centre k 0 + reach) (2 ^ coordinate_bits d - 1))
    → record { d = d; low = low; high = high } ≡ box_around d centre reach
same_box d centre reach low high long long' lows highs =
    let box : List ℕ → List ℕ → Region = λ low high. record { d = d; low = low; high = high } in
    let bottom = filled (λ value. value - reach) centre low long lows in
    let top = filled (λ value. min (value + reach) (2 ^ coordinate_bits d - 1)) centre high long' highs in
    ap (λ (xs : List ℕ). box xs high) bottom ∙ ap (λ (ys : List ℕ). box (map (λ value. value - reach) centre) ys) top

-- a coordinate has at most 32 bits
pub range_fits : (d : ℕ) → IsDimension d → 2 ^ coordinate_bits d ≤ 2 ^ 32
range_fits d is =
    let few : coordinate_bits d ≤ 32 = div-le_of_le-mul d (omega (arith, is.0)) in
    pow_mono few
