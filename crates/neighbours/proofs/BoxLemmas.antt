-- The places within a reach of a centre are those of a box about it, and what is outside is further.
use Rattle.std.proofs.Common.{◌≡◌, ◌⊎◌, ℕ, ◌+◌, ◌-◌, ◌*◌, ◌%◌, ◌^◌, ◌<◌, ◌≤◌, List, length, inl, inr}
use Rattle.std.proofs.Common.{get_or, slice_index, map, min, sym, ap, ◌∙◌, arith}
use Rattle.std.proofs.lemmas.Bool.{cases_lt}
use Rattle.std.proofs.lemmas.List.{ext_get_or, get_or-map, length-map}
use Rattle.std.proofs.Math.Pow.{pow_mono}
use Rattle.std.proofs.Math.Nat.{div-le_of_le-mul, mod-eq_of_lt}
use Rattle.zorder.specs.declared.regions.Region.{Region}
use Rattle.zorder.specs.Codes.{IsCode, IsDimension, IsInRange, code, coordinate_bits}
use Rattle.zorder.specs.Regions.{IsInside, IsRegion}
use Rattle.zorder.proofs.CallerLemmas.{coordinate_below, inside_between}
use Rattle.neighbours.specs.Around.{apart, box_around}
use Rattle.neighbours.specs.Metrics.{code_in, far, through}
use Rattle.neighbours.specs.declared.neighbour.Neighbour.{Neighbour}
use Rattle.neighbours.specs.Neighbours.{neighbour_at, rank_of}
use Rattle.neighbours.proofs.MetricLemmas.{code_in_code, step_within}
use Rattle.neighbours.proofs.StretchLemmas.{rank_is}

module _ (d : ℕ) (centre : List ℕ) (reach : ℕ) (long : d ≤ length centre) where
  low_at : (c : ℕ) → c < d → slice_index (box_around d centre reach).low c ≡ slice_index centre c - reach
  low_at c within = get_or-map (λ value. value - reach) centre c 0 0 (omega arith)

  high_at : (c : ℕ) → c < d →
      slice_index (box_around d centre reach).high c ≡ min (slice_index centre c + reach) (2 ^ coordinate_bits d - 1)
  high_at c within = get_or-map (λ value. min (value + reach) (2 ^ coordinate_bits d - 1)) centre c 0 0 (omega arith)

  pub inside_from_apart : (z : ℕ) → IsDimension d → IsCode d z
      → ((c : ℕ) → c < d → apart d centre z c ≤ reach) → IsInside (box_around d centre reach) z
  inside_from_apart z is code near c within =
      let each = near c within in
      let below = coordinate_below d z is code c in (
        omega (arith, low_at c within),
        omega (arith, high_at c within),
      )

  pub box_is_region : IsDimension d → IsInRange d centre → IsRegion (box_around d centre reach)
  box_is_region is range = record {
    dimension = is;
    low = λ c within. omega (arith, low_at c within, range c within);
    high = λ c within. omega (arith, high_at c within, range c within);
  }

-- a one shifted left, that still fits
pub shifted_one : (bits limit : ℕ) → limit < 2 ^ 64 → 2 ^ bits ≤ limit → 1 * 2 ^ bits % 2 ^ 64 ≡ 2 ^ bits
shifted_one bits limit small within =
    let one : 1 * 2 ^ bits ≡ 2 ^ bits = omega arith in
    let fits : 1 * 2 ^ bits < 2 ^ 64 = omega arith in
    mod-eq_of_lt fits ∙ one

filled : (f : ℕ → ℕ) (xs ys : List ℕ) →
    length ys ≡ length xs → ((k : ℕ) → k < length xs → get_or ys k 0 ≡ f (get_or xs k 0)) → ys ≡ map f xs
filled f xs ys long each = ext_get_or 0 ys (map f xs) (long ∙ sym (length-map xs f)) (λ k within.
    let within' : k < length xs = omega arith in
    each k within' ∙ sym (get_or-map f xs k 0 0 within'))

-- a region whose ends were set one by one
pub same_box : (d : ℕ) (centre : List ℕ) (reach : ℕ) (low high : List ℕ) →
    length low ≡ length centre → length high ≡ length centre
    → ((k : ℕ) → k < length centre → get_or low k 0 ≡ get_or centre k 0 - reach)
    → ((k : ℕ) → k < length centre → get_or high k 0 ≡ min (get_or centre k 0 + reach) (2 ^ coordinate_bits d - 1))
    → record { d = d; low = low; high = high } ≡ box_around d centre reach
same_box d centre reach low high long long' lows highs =
    let box : List ℕ → List ℕ → Region = λ low high. record { d = d; low = low; high = high } in
    let bottom = filled (λ value. value - reach) centre low long lows in
    let top = filled (λ value. min (value + reach) (2 ^ coordinate_bits d - 1)) centre high long' highs in
    ap (λ (xs : List ℕ). box xs high) bottom ∙ ap (λ (ys : List ℕ). box (map (λ value. value - reach) centre) ys) top

-- a coordinate has at most 32 bits
pub range_fits : (d : ℕ) → IsDimension d → 2 ^ coordinate_bits d ≤ 2 ^ 32
range_fits d is =
    let few : coordinate_bits d ≤ 32 = div-le_of_le-mul d (omega (arith, is.0)) in
    pow_mono few

-- a code outside the box of what is within reach of a distance is further
pub outside_is_further : (step : ℕ → ℕ → ℕ) (d : ℕ) (centre : List ℕ) (z distance reach : ℕ) →
    ((so_far apart : ℕ) → so_far ≤ step so_far apart)
    → ((so_far apart : ℕ) → apart < 2 ^ 32 → step so_far apart ≤ distance → apart ≤ reach)
    → IsDimension d → IsInRange d centre → d ≤ length centre → IsCode d z
    → (z < code d (box_around d centre reach).low) ⊎ (code d (box_around d centre reach).high < z)
    → distance < far step d centre z
outside_is_further step d centre z distance reach grows reaches is range long is_code out =
    elim (cases_lt distance (far step d centre z)) [
      | inl further ↦ further
      | inr near ↦
          let w_is = code_in_code d z is_code in
          let each : ℕ → ℕ = apart d centre (code_in d z) in
          let between = inside_between (box_around d centre reach) z
          (box_is_region d centre reach long is range) is_code
          (inside_from_apart d centre reach long z is is_code (λ c within.
          let same = ap (λ (w : ℕ). apart d centre w c) w_is in
          let fits = range_fits d is in
          let below = coordinate_below d z is is_code c in
          omega (
            arith,
            same,
            reaches (through step each c) (each c)
                (omega (arith, same, below, range c within, fits))
                (omega (arith, near, step_within step grows each d c within)),
          ))) in
          elim out [
            | inl before ↦ absurd (omega (arith, between.0))
            | inr behind ↦ absurd (omega (arith, between.1))
          ]
    ]

-- one that is nearer stands before a place
pub nearer_before : (one : Neighbour) (distance place : ℕ) → one.place < 2 ^ 64
    → one.distance_high * 2 ^ 64 + one.distance < distance → rank_of one ≤ rank_of (neighbour_at distance place)
nearer_before one distance place small nearer = omega (arith, rank_is distance place)
