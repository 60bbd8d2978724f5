-- Halving n places takes t steps, with 2 ^ t at most twice n: while `count` places
-- are left, 2 ^ t * (count - 1) is at most n - 1, and each step halves count - 1.
use Rattle.std.proofs.Common.{◌≡◌, ℕ, ◌+◌, ◌-◌, ◌*◌, ◌^◌, ◌<◌, ◌≤◌, ap, ◌∙◌, add-one, arith}
use Rattle.std.proofs.Math.Nat.{pow-suc, mul-le-mul_left}

-- from `before` to `now` the steps so far, with `count` of the places left
pub record IsHalved (before now places count : ℕ) : Type 0 where
  pub t : ℕ
  pub taken : now ≡ before + t
  pub left : 2 ^ t * (count - 1) ≤ places - 1
  pub bound : 2 ^ t ≤ 2 * places

-- one step, which leaves at most half of count - 1
pub halved_to : (before now places count rest : ℕ) →
    1 < count → 2 * (rest - 1) ≤ count - 1 → IsHalved before now places count → IsHalved before (now + 1) places rest
halved_to before now places count rest more twice halved =
    let t = halved.t in
    let scaled = mul-le-mul_left (2 ^ t) twice in
    let one = mul-le-mul_left (2 ^ t) (one_of count more) in
    let power : 2 ^ (t + 1) ≡ 2 * 2 ^ t = ap (λ n. 2 ^ n) (add-one t) ∙ omega (arith, pow-suc 2 t) in
    let powers = ap (λ n. n * (rest - 1)) power in
    record {
      t = t + 1;
      taken = omega (arith, halved.taken);
      left = omega (arith, halved.left);
      bound = omega (arith, halved.left, halved.bound);
    }
  where
    one_of : (count : ℕ) → 1 < count → 1 ≤ count - 1
    one_of count more = omega arith
