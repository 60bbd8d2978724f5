-- A slope times a power of two, rounded up or down in 128 bits; and parts of whole numbers.
use Rattle.std.proofs.Common.{◌≡◌, ℕ, ◌+◌, ◌-◌, ◌*◌, ◌/◌, ◌%◌, ◌^◌, ◌<◌, ◌≤◌, ℤ, pos, negsuc, to_z, of_z, w64, refl}
use Rattle.std.proofs.Common.{sym, ap, ◌∙◌, arith}
use Rattle.std.specs.Prelude.{unsigned_abs}
use Rattle.std.proofs.lemmas.Nat.{shl_whole, mul-lt}
use Rattle.std.proofs.Math.Nat.{div-mul-le_self, lt-div-mul-add, mul-le-mul_left, lt_of_mul-lt-mul_right}
use borrow.Author.Differences.{up, down}
use Rattle.exact_cross.specs.Floors.{IsFloorAt}
use Rattle.exact_cross.proofs.CallerLemmas.{IsFloorAt-out}

shifted : (a rise places : ℕ) → a ≡ rise → rise < 2 ^ 33 → places ≤ 64 → (a * 2 ^ places) % 2 ^ 128 ≡ rise * 2 ^ places
shifted a rise places is small few = ap (λ (r : ℕ). (r * 2 ^ places) % 2 ^ 128) is ∙ shl_whole rise 33 places 128
    small (omega arith)

-- the quotient of a product that fits 128 bits
pub down_near : (rise run places a b : ℕ) → 0 < run → rise < 2 ^ 33 → places ≤ 64 → a ≡ rise → b ≡ run →
    ((a * 2 ^ places) % 2 ^ 128 / b * run ≤ rise * 2 ^ places) ×
    (rise * 2 ^ places < (a * 2 ^ places) % 2 ^ 128 / b * run + run)
down_near rise run places a b positive small few rise_is run_is =
    let is : (a * 2 ^ places) % 2 ^ 128 / b ≡ rise * 2 ^ places / run = ap (λ (n : ℕ). n / b)
    (shifted a rise places rise_is small few) ∙ ap (λ (r : ℕ). rise * 2 ^ places / r) run_is in
    let scaled = ap (λ (n : ℕ). n * run) is in (
      omega (arith, scaled, div-mul-le_self (rise * 2 ^ places) run),
      omega
          (arith, scaled, lt-div-mul-add {a = rise * 2 ^ places} {b = run} positive),
    )

pub up_near : (rise run places a b : ℕ) → 0 < run → rise < 2 ^ 33 → places ≤ 64 → a ≡ rise → b ≡ run →
    (rise * 2 ^ places ≤ ((a * 2 ^ places) % 2 ^ 128 + (b - 1)) / b * run) ×
    (((a * 2 ^ places) % 2 ^ 128 + (b - 1)) / b * run < rise * 2 ^ places + run)
up_near rise run places a b positive small few rise_is run_is =
    let is : ((a * 2 ^ places) % 2 ^ 128 + (b - 1)) / b ≡ (rise * 2 ^ places + (run - 1)) / run =
    ap (λ (n : ℕ). (n + (b - 1)) / b) (shifted a rise places rise_is small few) ∙ ap
    (λ (r : ℕ). (rise * 2 ^ places + (r - 1)) / r) run_is in
    let scaled = ap (λ (n : ℕ). n * run) is in
    let low = div-mul-le_self (rise * 2 ^ places + (run - 1)) run in
    let high = lt-div-mul-add {a = rise * 2 ^ places + (run - 1)} {b = run} positive in
    (omega (arith, scaled, high, positive), omega (arith, scaled, low, positive))

-- a slope that climbs little over a width, with as many binary places as that has, is small
pub slope_small : (R S T m width : ℕ) → 0 < R → S < 2 ^ 33 → T ≤ 2 * width + 1 → S * width ≤ 2 ^ 33 * R →
    m * R < S * T + R → m < 2 ^ 35
slope_small R S T m width positive small narrow climb low =
    let wide = mul-le-mul_left S narrow in
    let most : m < 2 ^ 34 + 2 ^ 33 + 1 = lt_of_mul-lt-mul_right R (omega (arith, wide, low, climb, small, positive)) in
    omega (arith, most)

-- the absolute value of a number that its type holds
pub own_abs : (z : ℤ) (n : ℕ) → to_z w64 (of_z w64 z) ≡ z → n ≡ unsigned_abs (to_z w64 (of_z w64 z)) →
    n ≡ unsigned_abs z
own_abs z n same is = is ∙ ap unsigned_abs same

-- of a whole number one part is 0
pub falls_parts : (z : ℤ) (n : ℕ) → up z < down z → n ≡ unsigned_abs z → (up z ≡ 0) × (down z ≡ n)
falls_parts (pos k) n falls is = absurd (omega arith)
falls_parts (negsuc k) n falls is = (refl, sym is)

pub rises_parts : (z : ℤ) (n : ℕ) → down z ≤ up z → n ≡ unsigned_abs z → (up z ≡ n) × (down z ≡ 0)
rises_parts (pos k) n rises is = (sym is, refl)
rises_parts (negsuc k) n rises is = absurd (omega arith)

-- a slope that neither rises nor falls much
pub abs_climb : (z : ℤ) (r dx y y' e : ℕ) → up z * dx + r * y ≤ down z * dx + r * y' + r * e + r * e →
    down z * dx + r * y' ≤ up z * dx + r * y + r * e + r * e →
    y < 2 ^ 32 → y' < 2 ^ 32 → e ≤ 1048576 → unsigned_abs z * dx ≤ 2 ^ 33 * r
abs_climb (pos k) r dx y y' e above below low low' bounded =
    omega (arith, above, mul-le-mul_left r (at_most y' (2 ^ 32) low'), mul-le-mul_left r bounded)
  where
    at_most : (a b : ℕ) → a < b → a ≤ b
    at_most a b less = omega arith
abs_climb (negsuc k) r dx y y' e above below low low' bounded =
    omega (arith, below, mul-le-mul_left r (at_most y (2 ^ 32) low), mul-le-mul_left r bounded)
  where
    at_most : (a b : ℕ) → a < b → a ≤ b
    at_most a b less = omega arith

-- a climb has no more than 97 bits
pub climb_small : (x0 rise run x : ℕ) (f : ℤ) → 0 < run → rise < 2 ^ 33 → x0 < 2 ^ 64 → x < 2 ^ 64 → IsFloorAt
    (record { x0 = x0; y0 = pos 0; rise = rise; run = run }) x f →
    (up f < 2 ^ 98) × (down f < 2 ^ 98)
climb_small x0 rise run x f positive small low right floor =
    let (under, over) = IsFloorAt-out (record { x0 = x0; y0 = pos 0; rise = rise; run = run }) x f floor in
    let far : rise * x < 2 ^ 97 = product rise x small right in
    let near : rise * x0 < 2 ^ 97 = product rise x0 small low in
    parts f under over far near
  where
    product : (a b : ℕ) → a < 2 ^ 33 → b < 2 ^ 64 → a * b < 2 ^ 97
    product a b one two = omega (arith, mul-lt a b (2 ^ 33) (2 ^ 64) one two)

    parts : (z : ℤ) → up z * run + (0 * run + rise * x0) ≤ down z * run + (0 * run + rise * x) → down z * run +
        (0 * run + rise * x) < up z * run + run + (0 * run + rise * x0) →
        rise * x < 2 ^ 97 → rise * x0 < 2 ^ 97 → (up z < 2 ^ 98) × (down z < 2 ^ 98)
    parts (pos k) under over far near =
        let scaled = mul-le-mul_left k positive in
        (omega (arith, under, far, scaled), omega arith)
    parts (negsuc k) under over far near =
        let scaled = mul-le-mul_left k positive in
        (omega arith, omega (arith, over, near, scaled))
