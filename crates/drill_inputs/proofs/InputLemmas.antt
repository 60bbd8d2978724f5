-- What is known of the inputs, whatever the seed.
use Rattle.std.proofs.Common.{◌≡◌, ℕ, zero, suc, ◌+◌, ◌-◌, ◌*◌, ◌%◌, ◌^◌, ◌<◌, ◌≤◌}
use Rattle.std.proofs.Common.{length, sym, subst, zero-add, add-zero, arith, rules}
use Rattle.std.specs.List.{All}
use Rattle.std.specs.List.Sorted.{IsNonDecreasing}
use Rattle.std.proofs.lemmas.List.FromFn.{length-map-range_with_len, get_or-map-range_with_len}
use Rattle.std.proofs.lemmas.List.FromFn.{sum_by-map-range_with_len_more}
use Rattle.zorder.specs.Points.{ArePoints}
use Rattle.log_levels.specs.Accepted.{IsPlain}
use Rattle.drill_inputs.specs.Draws.{drawn}
use Rattle.drill_inputs.specs.Inputs.{sum_of_first, key_at, coordinate_at, update_by}
use Rattle.drill_inputs.specs.Inputs.{update_at, keys_of, finds_of, coordinates_of, updates_of}
use Rattle.drill_inputs.proofs.ListLemmas.{All-made}

-- one draw more
pub sum-more : (seed count : ℕ) → sum_of_first seed (count + 1) ≡ sum_of_first seed count + drawn seed count % 16
sum-more seed count = sum_by-map-range_with_len_more (λ x. x) (λ j. drawn seed j % 16) 0 count count (zero-add count)

-- the sum never falls
pub sum-rises : (seed count more : ℕ) → sum_of_first seed count ≤ sum_of_first seed (count + more)
sum-rises seed count zero =
    subst (λ (m : ℕ). sum_of_first seed count ≤ sum_of_first seed m) (sym (add-zero count)) (omega arith)
sum-rises seed count (suc more) =
    let next : count + suc more ≡ count + more + 1 = omega arith in
    subst (λ (m : ℕ). sum_of_first seed count ≤ sum_of_first seed m)
    (sym next) (omega (arith, sum-rises seed count more, sum-more seed (count + more)))

-- and rises by at most 15 a draw
pub sum-small : (seed count : ℕ) → sum_of_first seed count ≤ 15 * count
sum-small seed zero = omega arith
sum-small seed (suc count) =
    let next : suc count ≡ count + 1 = omega arith in
    subst
    (λ (m : ℕ). sum_of_first seed m ≤ 15 * m) (sym next) (omega (arith, sum-small seed count, sum-more seed count))

pub keys-never_fall : (n seed : ℕ) → IsNonDecreasing (keys_of n seed)
unfolding keys_of
keys-never_fall n seed i j d low high =
    let below : j < n = subst (λ (m : ℕ). j < m) (length-map-range_with_len (key_at seed) 0 n) high in
    let at_i = get_or-map-range_with_len (key_at seed) 0 n i i d (omega arith) (zero-add i) in
    let at_j = get_or-map-range_with_len (key_at seed) 0 n j j d below (zero-add j) in
    let apart : i + 1 + (j - i) ≡ j + 1 = omega arith in
    let rises =
    subst (λ (m : ℕ). sum_of_first seed (i + 1) ≤ sum_of_first seed m) apart (sum-rises seed (i + 1) (j - i)) in
    omega (arith, at_i, at_j, rises)

pub length-keys : (n seed : ℕ) → length (keys_of n seed) ≡ n
unfolding keys_of
length-keys n seed = length-map-range_with_len (key_at seed) 0 n

pub length-finds : (n seed : ℕ) → length (finds_of n seed) ≡ n
unfolding finds_of
length-finds n seed = length-map-range_with_len _ 0 n

pub length-coordinates : (n seed : ℕ) → length (coordinates_of n seed) ≡ 2 * n
unfolding coordinates_of
length-coordinates n seed = length-map-range_with_len _ 0 (2 * n)

pub length-updates : (n seed : ℕ) → length (updates_of n seed) ≡ n
unfolding updates_of
length-updates n seed = length-map-range_with_len _ 0 n

pub keys-small : (n seed : ℕ) → n ≤ 1000000 → All (λ key. key < 2 ^ 24) (keys_of n seed)
unfolding keys_of
keys-small n seed few =
    All-made (λ key. key < 2 ^ 24) (key_at seed) n (λ i below. omega (arith, sum-small seed (i + 1)))

pub coordinates-small : (n seed : ℕ) → All (λ value. value < 256) (coordinates_of n seed)
unfolding coordinates_of
coordinates-small n seed = All-made (λ value. value < 256) (coordinate_at n seed) (2 * n) (λ i below. omega arith)

pub ArePoints-coordinates : (n seed : ℕ) → n ≤ 1000000 → ArePoints 2 (coordinates_of n seed)
unfolding coordinates_of
ArePoints-coordinates n seed few = record {
  count = n;
  few = omega arith;
  whole = length-coordinates n seed;
  range = All-made (λ value. value < 2 ^ 32) (coordinate_at n seed) (2 * n) (λ i below. omega arith);
}

IsPlain-update_by : (key draw : ℕ) → IsPlain (update_by key draw)
IsPlain-update_by key draw = search rules

pub updates-plain : (n seed : ℕ) → All IsPlain (updates_of n seed)
unfolding updates_of
updates-plain n seed = All-made IsPlain (update_at n seed) n (λ i below. IsPlain-update_by _ _)
