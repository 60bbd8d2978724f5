-- Steps of a scale, by the order of the numbers.
use Rattle.std.proofs.Common.{◌≡◌, ℕ, zero, suc, ◌+◌, ◌-◌, ◌*◌, ◌/◌, ◌%◌, ◌^◌, ◌<◌}
use Rattle.std.proofs.Common.{◌≤◌, refl, sym, ap, ◌∙◌, subst, inl, inr, add-one, arith}
use Rattle.std.specs.Int.Count.{count_leading_zeros}
use Rattle.std.proofs.lemmas.Bool.{cases_lt}
use Rattle.std.proofs.lemmas.Nat.{leading_length, le-div, pow-add}
use Rattle.std.proofs.Math.Nat.{div-mul-le_self, mod-eq_of_lt, mul-le-mul_left, mul-le-mul_right, pow-suc, pow-zero}
use Rattle.radix_table.specs.Tables.{places_of, dropped_of, step_with}

pub power_some : (n : ℕ) → 0 < 2 ^ n
power_some zero = omega (arith, pow-zero 2)
power_some (suc n) = omega (arith, pow-suc 2 n, power_some n)

-- a power of two is above its exponent
above_exponent : (n : ℕ) → n + 1 ≤ 2 ^ n
above_exponent zero = omega (arith, pow-zero 2)
above_exponent (suc n) = omega (arith, pow-suc 2 n, above_exponent n)

power_rises : (j k : ℕ) → j ≤ k → 2 ^ j ≤ 2 ^ k
power_rises j k less =
    let all : j + (k - j) ≡ k = omega arith in
    let whole : 2 ^ k ≡ 2 ^ j * 2 ^ (k - j) = ap (λ (n : ℕ). 2 ^ n) (sym all) ∙ pow-add 2 j (k - j) in
    let some : 1 ≤ 2 ^ (k - j) = power_some (k - j) in
    omega (arith, whole, mul-le-mul_left (2 ^ j) some)

power_next : (n : ℕ) → 2 ^ (n + 1) ≡ 2 * 2 ^ n
power_next n = ap (λ (k : ℕ). 2 ^ k) (add-one n) ∙ omega (arith, pow-suc 2 n)

-- what is below a product is less than the other factor as often as the first
div_below : (m n k : ℕ) → 0 < k → n < m * k → n / k < m
div_below m n k some below = elim (cases_lt (n / k) m) [
  | inl less ↦ less
  | inr more ↦ absurd (omega (arith, below, div-mul-le_self n k, mul-le-mul_right k more))
]

-- ---- binary places

-- a number with a place beyond k has none of k places empty in front
leading_past : (k n : ℕ) → 2 ^ k ≤ n → count_leading_zeros k n ≡ 0
unfolding count_leading_zeros
leading_past zero n long = refl
leading_past (suc k) zero long = absurd (omega (arith, long, power_some (suc k)))
leading_past (suc k) (suc n) long =
    leading_past k (suc n / 2) (le-div (2 ^ k) (suc n) 2 (omega arith) (omega (arith, long, pow-suc 2 k)))

pub record HasPlaces (d p : ℕ) : Type 0 where
  pub most : p ≤ 64
  pub below : p < 64 → d < 2 ^ p
  pub fits : d < 2 ^ 64 → d < 2 ^ p
  pub from : 2 ^ p ≤ 2 * d + 1

pub HasPlaces-of : (d : ℕ) → HasPlaces d (places_of d)
HasPlaces-of d = elim (cases_lt d (2 ^ 64)) [
  | inl short ↦
      let length = leading_length 64 d short in
      let is : 64 - count_leading_zeros 64 d ≡ length.0 = omega (arith, length.1) in
      let below : d < 2 ^ (64 - count_leading_zeros 64 d) = subst (λ (m : ℕ). d < 2 ^ m) (sym is) length.2 in
      record {
        most = omega arith;
        below = λ _. below;
        fits = λ _. below;
        from = subst (λ (m : ℕ). 2 ^ m ≤ 2 * d + 1) (sym is) length.3;
      }
  | inr long ↦
      let is : 64 - count_leading_zeros 64 d ≡ 64 = omega (arith, leading_past 64 d long) in
      record {
        most = omega arith;
        below = λ less. absurd (omega (arith, less, is));
        fits = λ less. absurd (omega (arith, less, long));
        from = subst (λ (m : ℕ). 2 ^ m ≤ 2 * d + 1) (sym is) (omega (arith, long));
      }
]

places_rise : (d e : ℕ) → d ≤ e → places_of d ≤ places_of e
places_rise d e less =
    let here = HasPlaces-of d in
    let there = HasPlaces-of e in
    elim (cases_lt (places_of e) (places_of d)) [
      | inl falls ↦
          let next = power_rises (places_of e + 1) (places_of d) (omega arith) in
          absurd
          (omega (arith, less, next, power_next (places_of e), there.below (omega (arith, here.most)), here.from))
      | inr rises ↦ omega arith
    ]

-- ---- steps

-- a distance with more places dropped than at least has just so many left
dropped_more : (shift kept d : ℕ) → shift < dropped_of shift kept d → dropped_of shift kept d + kept ≡ places_of d
dropped_more shift kept d more = omega arith

-- a distance is below 2 ^ kept after places are dropped
left_below : (shift kept d : ℕ) → d < 2 ^ places_of d → d / 2 ^ dropped_of shift kept d < 2 ^ kept
left_below shift kept d short =
    let dropped = dropped_of shift kept d in
    let whole = pow-add 2 kept dropped in
    let most = power_rises (places_of d) (kept + dropped) (omega arith) in
    div_below (2 ^ kept) d (2 ^ dropped) (power_some dropped) (omega (arith, short, whole, most))

power_of_kept : (kept : ℕ) → 1 ≤ kept → 2 ^ kept ≡ 2 * 2 ^ (kept - 1)
power_of_kept kept some =
    let all : kept - 1 + 1 ≡ kept = omega arith in
    ap (λ (n : ℕ). 2 ^ n) (sym all) ∙ power_next (kept - 1)

-- and at least 2 ^ (kept - 1), where more are dropped than at least
left_from : (shift kept d : ℕ) →
    1 ≤ kept → shift < dropped_of shift kept d → 2 ^ (kept - 1) ≤ d / 2 ^ dropped_of shift kept d
left_from shift kept d some more =
    let dropped = dropped_of shift kept d in
    let here = HasPlaces-of d in
    let is : kept + dropped ≡ places_of d = omega (arith, dropped_more shift kept d more) in
    let whole : 2 ^ kept * 2 ^ dropped ≡ 2 ^ places_of d = sym (pow-add 2 kept dropped) ∙ ap (λ (n : ℕ). 2 ^ n) is in
    let twice : 2 ^ kept * 2 ^ dropped ≡ 2 * (2 ^ (kept - 1) * 2 ^ dropped) =
    ap (λ (n : ℕ). n * 2 ^ dropped) (power_of_kept kept some) ∙ omega arith in
    le-div (2 ^ (kept - 1)) d (2 ^ dropped) (power_some dropped) (omega (arith, whole, twice, here.from))

step_more : (shift kept d e s t : ℕ) → 1 ≤ kept → s < t →
    shift ≤ s → d / 2 ^ s < 2 ^ kept → 2 ^ (kept - 1) ≤ e / 2 ^ t → step_with shift kept d s ≤ step_with shift kept e t
step_more shift kept d e s t some less from below above =
    let p = 2 ^ (kept - 1) in
    let next : s - shift + 1 ≤ t - shift = omega arith in
    let scaled = mul-le-mul_right (2 ^ (kept - 1)) next in
    omega (arith, scaled, below, above, power_of_kept kept some)

step_same : (shift kept d e s : ℕ) → d ≤ e → step_with shift kept d s ≤ step_with shift kept e s
step_same shift kept d e s less =
    omega (arith, le-div (d / 2 ^ s) e (2 ^ s) (power_some s) (omega (arith, less, div-mul-le_self d (2 ^ s))))

-- a greater distance is in no lower step
pub distance_rises : (shift kept d e : ℕ) → 1 ≤ kept →
    d ≤ e → step_with shift kept d (dropped_of shift kept d) ≤ step_with shift kept e (dropped_of shift kept e)
distance_rises shift kept d e some less =
    let places = places_rise d e less in
    elim (cases_lt (dropped_of shift kept d) (dropped_of shift kept e)) [
      | inl more ↦
          let here = HasPlaces-of d in
          let there = HasPlaces-of e in
          let short = here.below (omega (arith, there.most, dropped_more shift kept e (omega arith))) in
          step_more shift kept d e (dropped_of shift kept d) (dropped_of shift kept e) some more
          (omega arith) (left_below shift kept d short) (left_from shift kept e some (omega arith))
      | inr no_more ↦
          let same : dropped_of shift kept d ≡ dropped_of shift kept e = omega arith in
          subst (λ (t : ℕ). step_with shift kept d (dropped_of shift kept d) ≤ step_with shift kept e t) same
          (step_same shift kept d e (dropped_of shift kept d) less)
    ]

-- ---- a step fits 64 bits

-- the steps of the numbers with fewer places dropped fit
pub shifted_fits : (shift kept d : ℕ) →
    1 ≤ kept → kept ≤ 64 → d < 2 ^ 64 → step_with shift kept d (dropped_of shift kept d) < 2 ^ 64
shifted_fits shift kept d some few short =
    let dropped = dropped_of shift kept d in
    let here = HasPlaces-of d in
    elim (cases_lt shift dropped) [
      | inl more ↦
          let is : dropped + 1 + (kept - 1) ≡ places_of d = omega (arith, dropped_more shift kept d more) in
          let whole : 2 ^ (dropped + 1) * 2 ^ (kept - 1) ≡ 2 ^ places_of d = sym (pow-add 2 (dropped + 1) (kept - 1))
          ∙ ap (λ (n : ℕ). 2 ^ n) is in
          let scaled = mul-le-mul_right (2 ^ (kept - 1)) (above_exponent (dropped + 1)) in
          let fewer : dropped - shift ≤ dropped = omega arith in
          let under = mul-le-mul_right (2 ^ (kept - 1)) fewer in
          omega (
            arith,
            whole,
            scaled,
            under,
            power_of_kept kept some,
            left_below shift kept d (here.fits short),
            power_rises (places_of d) 64 here.most,
          )
      | inr none ↦
          let zero_more : dropped - shift ≡ 0 = omega arith in
          let nothing : (dropped - shift) * 2 ^ (kept - 1) ≡ 0 = ap (λ (n : ℕ). n * 2 ^ (kept - 1)) zero_more
          ∙ omega arith in
          let one : 1 ≤ 2 ^ dropped = power_some dropped in
          let most = mul-le-mul_left (d / 2 ^ dropped) one in
          omega (arith, nothing, most, div-mul-le_self d (2 ^ dropped), short)
    ]

-- and the code's sum is the step
pub step_is : (shift kept d more dropped : ℕ) →
    1 ≤ kept → kept ≤ 64 → d < 2 ^ 64 → dropped ≡ dropped_of shift kept d → more ≡ dropped - shift →
    more * 2 ^ (kept - 1) % 18446744073709551616 + d / 2 ^ dropped ≡ step_with shift kept d (dropped_of shift kept d)
step_is shift kept d more dropped some few short is from =
    let steps = ap (λ (n : ℕ). n * 2 ^ (kept - 1)) from in
    let all = ap (λ (n : ℕ). step_with shift kept d n) is in
    let fits : more * 2 ^ (kept - 1) < 18446744073709551616 =
    omega (arith, steps, all, shifted_fits shift kept d some few short) in
    omega (arith, mod-eq_of_lt fits, steps, all)
