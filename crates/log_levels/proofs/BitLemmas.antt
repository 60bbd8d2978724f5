-- A number without its lowest bits.
use Rattle.std.proofs.Common.{◌≡◌, ℕ, zero, suc, ◌+◌, ◌-◌, ◌*◌, ◌/◌, ◌%◌, ◌^◌, ◌<◌, ◌≤◌, eqb}
use Rattle.std.proofs.Common.{false, sym, ap, ◌∙◌, inl, inr, ◌⊎◌, arith, add-one, add-zero}
use Rattle.std.proofs.Math.Nat.{div-div-eq-div-mul, pow-suc, mod-eq_of_lt}
use Rattle.std.proofs.lemmas.Nat.{pow_pos, div-add-mod', div_below, shr-shr, mod_below}
use Rattle.std.proofs.lemmas.Bool.{cases_lt, cases_eq, eq-eqb, ne_eqb}
use Rattle.std.specs.Int.{bit_at}
use Rattle.log_levels.specs.Shapes.{from_bit}

-- one bit less is left out: the quotient is halved
pub quotient-more : (i f : ℕ) → f / 2 ^ (i + 1) ≡ f / 2 ^ i / 2
quotient-more i f = ap (λ k. f / k) (ap (λ k. 2 ^ k) (add-one i) ∙ pow-suc 2 i) ∙ sym (div-div-eq-div-mul f (2 ^ i) 2)

pub power-more : (i : ℕ) → 2 ^ (i + 1) ≡ 2 * 2 ^ i
power-more i = ap (λ k. 2 ^ k) (add-one i) ∙ omega (arith, pow-suc 2 i)

pub from_bit-zero : (f : ℕ) → from_bit 0 f ≡ f
from_bit-zero f = omega (arith, div-add-mod' f 1)

-- the number down to bit i is the number down to the bit above, and bit i
pub from_bit-more : (i f : ℕ) → from_bit i f ≡ from_bit (i + 1) f + bit_at f i * 2 ^ i
from_bit-more i f =
    let q = f / 2 ^ i in
    let p = 2 ^ i in
    let halves : f / 2 ^ (i + 1) ≡ q / 2 = quotient-more i f in
    let power : 2 ^ (i + 1) ≡ 2 * p = power-more i in
    let parts : q ≡ q / 2 * 2 + q % 2 = sym (div-add-mod' q 2) in
    let product : q * p ≡ (q / 2 * 2 + q % 2) * p = ap (λ k. k * p) parts in
    let upper : from_bit (i + 1) f ≡ q / 2 * (2 * p) = ap (λ k. k * 2 ^ (i + 1)) halves ∙ ap (λ k. q / 2 * k) power in
    omega arith

pub from_bit-le : (i f : ℕ) → from_bit i f ≤ f
from_bit-le i f = omega (arith, div-add-mod' f (2 ^ i))

pub quotient-small : (i f : ℕ) → f < 2 ^ i → f / 2 ^ i ≡ 0
quotient-small i f small = omega (arith, div_below f (2 ^ i) 1 (pow_pos i) (omega arith))

pub from_bit-small : (i f : ℕ) → f < 2 ^ i → from_bit i f ≡ 0
from_bit-small i f small = ap (λ k. k * 2 ^ i) (quotient-small i f small) ∙ omega arith

-- a bit is 0 or 1
pub bit-cases : (f i : ℕ) → (bit_at f i ≡ 0) ⊎ (bit_at f i ≡ 1)
bit-cases f i =
    let few : f / 2 ^ i % 2 < 2 = mod_below (f / 2 ^ i) 2 (omega arith) in
    elim (cases_lt (f / 2 ^ i % 2) 1) [ inl none ↦ inl (omega arith) | inr some ↦ inr (omega arith) ]

-- where two numbers agree from a bit on, they do from each higher one
pub same-above : (top f g j : ℕ) → f / 2 ^ top ≡ g / 2 ^ top → top ≤ j → f / 2 ^ j ≡ g / 2 ^ j
same-above top f g j same above =
    let place : top + (j - top) ≡ j = omega arith in
    ap (λ k. f / 2 ^ k) (sym place) ∙ sym (shr-shr f top (j - top))
    ∙ ap (λ q. q / 2 ^ (j - top)) same ∙ shr-shr g top (j - top) ∙ ap (λ k. g / 2 ^ k) place

-- a number is less than one more at bit i
pub from_bit-gt : (i f : ℕ) → f < from_bit i f + 2 ^ i
from_bit-gt i f = omega (arith, div-add-mod' f (2 ^ i), mod_below f (2 ^ i) (pow_pos i))

-- leaving out more bits gives no more
pub from_bit-antitone : (i k f : ℕ) → from_bit (i + k) f ≤ from_bit i f
from_bit-antitone i zero f = omega (arith, ap (λ j. from_bit j f) (add-zero i))
from_bit-antitone i (suc k) f =
    let step = from_bit-more (i + k) f in
    omega (arith, from_bit-antitone i k f, step, ap (λ j. from_bit j f) (add-assoc-one i k))
  where
    add-assoc-one : (i k : ℕ) → i + suc k ≡ i + k + 1
    add-assoc-one i k = omega arith

-- where bit i is 0, the number down to it is the number down to the bit above
pub from_bit-clear : (i f : ℕ) → bit_at f i ≡ 0 → from_bit i f ≡ from_bit (i + 1) f
from_bit-clear i f clear = omega (arith, from_bit-more i f, ap (λ b. b * 2 ^ i) clear)

pub from_bit-set : (i f : ℕ) → bit_at f i ≡ 1 → from_bit i f ≡ from_bit (i + 1) f + 2 ^ i
from_bit-set i f set = omega (arith, from_bit-more i f, ap (λ b. b * 2 ^ i) set)

-- where bit i is 0, the bits from it on are all 0 just where those above it are
pub none-left : (i f : ℕ) → bit_at f i ≡ 0 → eqb (f / 2 ^ i) 0 ≡ eqb (f / 2 ^ (i + 1)) 0
none-left i f clear =
    let q = f / 2 ^ i in
    let half : f / 2 ^ (i + 1) ≡ q / 2 = quotient-more i f in
    let parts : q ≡ q / 2 * 2 + q % 2 = sym (div-add-mod' q 2) in
    elim (cases_eq q 0) [
      | inl none ↦ eq-eqb q 0 none ∙ sym (eq-eqb _ 0 (omega arith))
      | inr some ↦ ne_eqb q 0 some ∙ sym (ne_eqb _ 0 (λ none. some (omega arith)))
    ]

-- where a bit is 1, not all from any lower one on are 0
pub some-left : (i f : ℕ) → bit_at f i ≡ 1 → eqb (f / 2 ^ i) 0 ≡ false
some-left i f set = ne_eqb _ 0 (λ none. absurd (omega (arith, ap (λ q. q % 2) none)))

pub some-left-below : (i top f : ℕ) → i ≤ top → bit_at f top ≡ 1 → eqb (f / 2 ^ i) 0 ≡ false
some-left-below i top f below set =
    let place : i + (top - i) ≡ top = omega arith in
    let at_top : f / 2 ^ i / 2 ^ (top - i) ≡ f / 2 ^ top = shr-shr f i (top - i) ∙ ap (λ k. f / 2 ^ k) place in
    ne_eqb _ 0 (λ none.
    let zero_there : f / 2 ^ top ≡ 0 = sym at_top
    ∙ ap (λ q. q / 2 ^ (top - i)) none ∙ quotient-small (top - i) 0 (pow_pos (top - i)) in
    absurd (omega (arith, ap (λ q. q % 2) zero_there)))

-- what the shifts of a number below 2 ^ 58 give
pub shifted : (i f : ℕ) → f < 2 ^ 58 → (f / 2 ^ i * 2 ^ i) % 2 ^ 64 ≡ from_bit i f
shifted i f few = mod-eq_of_lt (omega (arith, from_bit-le i f))
