-- Steps one after the other: their bounds multiply.
use Rattle.std.proofs.Common.{◌≡◌, ℕ, zero, suc, ◌+◌, ◌*◌, ◌-◌, ◌^◌, ◌<◌, ◌≤◌, ap, ◌∙◌, add-one, arith}
use Rattle.std.proofs.lemmas.Nat.{pow-add}
use Rattle.std.proofs.Math.Nat.{pow-suc, pow-zero, mul-le-mul_left, mul-le-mul_right}
use Rattle.levels.specs.Costs.{TakesAtMost, lookup_bound}

pub TakesAtMost-more : (first second before middle after : ℕ) →
    TakesAtMost first before middle → TakesAtMost second middle after → TakesAtMost (first * second) before after
TakesAtMost-more first second before middle after one two = record {
  t = one.t + two.t;
  taken = omega (arith, one.taken, two.taken);
  within =
      omega (arith, pow-add 2 one.t two.t, mul-le-mul_left (2 ^ one.t) two.within, mul-le-mul_right second one.within);
}

pub TakesAtMost-raise : (bound most before after : ℕ) →
    bound ≤ most → TakesAtMost bound before after → TakesAtMost most before after
TakesAtMost-raise bound most before after less steps =
    record { t = steps.t; taken = steps.taken; within = omega (arith, steps.within) }

pub TakesAtMost-one : (bound before after : ℕ) → after ≡ before + 1 → 2 ≤ bound → TakesAtMost bound before after
TakesAtMost-one bound before after is enough = record { t = 1; taken = is; within = enough }

power-some : (base n : ℕ) → 0 < base → 0 < base ^ n
power-some base zero some = omega (arith, pow-zero base)
power-some base (suc n) some = omega (arith, pow-suc base n, mul-le-mul_left (base ^ n) some, power-some base n some)

-- a lookup that ends at the first key
pub lookup-one : (eps eps_rec levels before after : ℕ) →
    after ≡ before + 1 → TakesAtMost (lookup_bound eps eps_rec levels) before after
lookup-one eps eps_rec levels before after is =
    let rest = power-some (4 * (2 * eps_rec + 3)) (levels - 1) (omega arith) in
    TakesAtMost-one (lookup_bound eps eps_rec levels) before after is
    (omega (arith, mul-le-mul_right ((4 * (2 * eps_rec + 3)) ^ (levels - 1)) (four eps), rest))
  where
    four : (eps : ℕ) → 2 ≤ 4 * (2 * eps + 3)
    four eps = omega arith

-- one level more
pub level-more : (eps_rec n m before middle after : ℕ) →
    m ≡ n + 1 → TakesAtMost ((4 * (2 * eps_rec + 3)) ^ n) before middle →
    TakesAtMost (2 * (2 * eps_rec + 3)) middle after → TakesAtMost ((4 * (2 * eps_rec + 3)) ^ m) before after
level-more eps_rec n m before middle after is so_far level =
    let base = 4 * (2 * eps_rec + 3) in
    let power : base ^ m ≡ base ^ n * base = ap (λ (k : ℕ). base ^ k) (is ∙ add-one n) ∙ pow-suc base n in
    let raised = TakesAtMost-raise (2 * (2 * eps_rec + 3)) base middle after (omega arith) level in
    TakesAtMost-raise (base ^ n * base) (base ^ m) before after
    (omega (arith, power)) (TakesAtMost-more (base ^ n) base before middle after so_far raised)

-- level 0 at the end
pub lookup-last : (eps eps_rec levels n before middle after : ℕ) →
    n ≡ levels - 1 → TakesAtMost (2 * (4 * (2 * eps_rec + 3)) ^ n) before middle →
    TakesAtMost (2 * (2 * eps + 3)) middle after → TakesAtMost (lookup_bound eps eps_rec levels) before after
lookup-last eps eps_rec levels n before middle after is so_far level =
    let power = ap (λ (k : ℕ). (4 * (2 * eps_rec + 3)) ^ k) is in
    let product = mul_rearranged ((4 * (2 * eps_rec + 3)) ^ n) eps in
    TakesAtMost-raise
    (2 * (4 * (2 * eps_rec + 3)) ^ n * (2 * (2 * eps + 3))) (lookup_bound eps eps_rec levels) before after
    (omega (arith, product, ap (λ (p : ℕ). 4 * (2 * eps + 3) * p) power))
    (TakesAtMost-more (2 * (4 * (2 * eps_rec + 3)) ^ n) (2 * (2 * eps + 3)) before middle after so_far level)
  where
    mul_rearranged : (p eps : ℕ) → 2 * p * (2 * (2 * eps + 3)) ≡ 4 * (2 * eps + 3) * p
    mul_rearranged p eps = omega arith
