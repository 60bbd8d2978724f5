-- Questions that are searched side by side.
use Rattle.std.proofs.Common.{◌≡◌, ℕ, ◌+◌, ◌-◌, ◌*◌, ◌/◌, ◌^◌, ◌<◌, ◌≤◌, ltb, List}
use Rattle.std.proofs.Common.{length, min, slice_index, inl, inr, ap, ◌∙◌, subst, arith}
use mir.Val.{bool_byte}
use Rattle.std.proofs.Math.Nat.{mul-le-mul_right}
use Rattle.std.proofs.lemmas.Bool.{cases_lt, lt-ltb, le-ltb}
use Rattle.std.specs.Int.{abs_diff}
use Rattle.std.specs.List.Sorted.{IsNonDecreasing}
use Rattle.window_search.specs.Searches.{lb}
use Rattle.window_search.proofs.LowerBounds.{IsLowerBound-lb, lb_after, lb_not_after}
use Rattle.window_search.proofs.Halving.{IsHalved, halved_to}
use Rattle.hints.specs.Told.{IsTold}
use Rattle.hints.specs.Lookups.{LeadsWithin, TakesEach}
use Rattle.hints.specs.Many.{AreTold, AreNear, HoldsBound}
use Rattle.hints.proofs.LookupLemmas.{pow-two}

-- a place that is set out has so many places behind it
pub set_room : (count width told place n : ℕ) → n ≡ count →
    1 ≤ width → width ≤ count + 1 → place ≡ min (told - width / 2) (n - (width - 1)) → place + width ≤ count + 1
set_room count width told place n len some within set = omega arith

-- and where the lower bound is near what was told, they hold it
pub set_near : (keys : List ℕ) (q width told place n : ℕ) →
    IsNonDecreasing keys → n ≡ length keys → 1 ≤ width → width ≤ length keys + 1 →
    place ≡ min (told - width / 2) (n - (width - 1)) →
    2 * abs_diff told (lb keys q) < width → HoldsBound keys q place width
set_near keys q width told place n order len some within set near =
    let bound = (IsLowerBound-lb keys q order).within in
    (omega arith, omega arith)

-- where the hints lead to within their own ε + 2, so many places about those that they tell leave the lower bounds open
pub told_near : (keys hints questions places : List ℕ) (n first end width : ℕ) →
    n ≡ length keys → width ≡ 2 * slice_index hints 1 + 5 → ((k : ℕ) → slice_index questions k < 2 ^ 64) →
    LeadsWithin hints keys (slice_index hints 1 + 2) →
    AreTold hints n questions places first end → AreNear keys questions places first end width
told_near keys hints questions places n first end width len wide fits leads told k from to =
    let near = leads (slice_index questions k) (slice_index places k) (fits k)
    (subst (λ (m : ℕ). IsTold hints m (slice_index questions k) (slice_index places k)) len (told k from to)) in
    omega (arith, near, wide)

-- the key before the half says on which side of it the lower bound is
pub half_room : (place left byte count read q : ℕ) → byte ≡ bool_byte (ltb read q) →
    1 < left → place + left ≤ count + 1 → place + left / 2 * byte + (left - left / 2) ≤ count + 1
half_room place left byte count read q answer more within = elim (cases_lt read q) [
  | inl less ↦ let one : byte ≡ 1 = answer ∙ ap bool_byte (lt-ltb read q less) in
      omega (arith, ap (λ (n : ℕ). left / 2 * n) one)
  | inr rest ↦ let none : byte ≡ 0 = answer ∙ ap bool_byte (le-ltb read q rest) in
      omega (arith, ap (λ (n : ℕ). left / 2 * n) none)
]

pub half_holds : (keys : List ℕ) (q place left byte read : ℕ) → byte ≡ bool_byte (ltb read q) →
    1 < left → place + left ≤ length keys + 1 → read ≡ slice_index keys (place + (left / 2 - 1)) →
    IsNonDecreasing keys → HoldsBound keys q place left → HoldsBound keys q (place + left / 2 * byte) (left - left / 2)
half_holds keys q place left byte read answer more within key order (from, to) = elim (cases_lt read q) [
  | inl less ↦
      let one : byte ≡ 1 = answer ∙ ap bool_byte (lt-ltb read q less) in
      let moved = ap (λ (n : ℕ). left / 2 * n) one in
      let after = lb_after keys q (place + (left / 2 - 1)) read order (omega arith) key less in
      (omega (arith, moved, after), omega (arith, moved))
  | inr rest ↦
      let none : byte ≡ 0 = answer ∙ ap bool_byte (le-ltb read q rest) in
      let moved = ap (λ (n : ℕ). left / 2 * n) none in
      let before = lb_not_after keys q (place + (left / 2 - 1)) read order key rest in
      (omega (arith, moved), omega (arith, moved, before))
]

-- ---- bounds of steps

pub worst_most : (width n : ℕ) → width ≤ n + 1 → 2 * width * (8 * (n + 1)) ≤ 16 * (n + 1) ^ 2
worst_most width n within =
    let scaled = mul-le-mul_right (n + 1) within in
    let square = pow-two (n + 1) in
    omega (arith, scaled, square)

square_least : (eps : ℕ) → 3 * (eps + 3) ≤ (eps + 2 + 1) ^ 2
square_least eps =
    let three : 3 ≤ eps + 3 = omega arith in
    let scaled = mul-le-mul_right (eps + 3) three in
    omega (arith, scaled, pow-two (eps + 2 + 1))

pub wide_most : (width eps : ℕ) → width ≡ 2 * eps + 5 → 2 * width * 4 ≤ 16 * (eps + 2 + 1) ^ 2
wide_most width eps wide = omega (arith, square_least eps)

pub few_most : (width n eps : ℕ) → width ≡ 1 → n < 2 * eps + 5 → 2 * width * (8 * (n + 1)) ≤ 16 * (eps + 2 + 1) ^ 2
few_most width n eps one few =
    let product = ap (λ (m : ℕ). 2 * m * (8 * (n + 1))) one in
    omega (arith, product, square_least eps)

-- so many questions were halved t times each, with `left` of the places left
pub record AreHalved (count before now width left : ℕ) : Type 0 where
  pub t : ℕ
  pub taken : now ≡ before + count * t
  pub halved : IsHalved 0 t width left

pub AreHalved-none : (count before width : ℕ) → 1 ≤ width → AreHalved count before before width width
AreHalved-none count before width some = record {
  t = 0;
  taken = omega arith;
  halved = record { t = 0; taken = omega arith; left = omega arith; bound = omega arith };
}

pub AreHalved-more : (count before now after width left : ℕ) → 1 < left →
    after ≡ now + count → AreHalved count before now width left → AreHalved count before after width (left - left / 2)
AreHalved-more count before now after width left more taken each = record {
  t = each.t + 1;
  taken = omega (arith, each.taken);
  halved = halved_to 0 each.t width left (left - left / 2) more (omega arith) each.halved;
}

pub AreHalved-end : (count before now width left : ℕ) →
    AreHalved count before now width left → TakesEach (2 * width) count before now
AreHalved-end count before now width left each =
    let same : each.t ≡ each.halved.t = omega (arith, each.halved.taken) in
    let power = ap (λ (n : ℕ). 2 ^ n) same in
    (each.t, omega (arith, each.taken), omega (arith, each.halved.bound, power))
