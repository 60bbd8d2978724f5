-- Distances by any metric, one coordinate after the other.
use Rattle.std.proofs.Common.{◌≡◌, ℕ, zero, suc, ◌+◌, ◌-◌, ◌<◌, ◌≤◌, refl, ap, arith}
use Rattle.std.proofs.Math.Nat.{mod-eq_of_lt}
use Rattle.zorder.specs.Codes.{IsCode}
use Rattle.neighbours.specs.Metrics.{code_in, through}

pub through_none : (step : ℕ → ℕ → ℕ) (each : ℕ → ℕ) → through step each 0 ≡ 0
unfolding through
through_none step each = refl

pub through_more : (step : ℕ → ℕ → ℕ) (each : ℕ → ℕ) (n : ℕ) →
    through step each (n + 1) ≡ step (through step each n) (each n)
unfolding through
through_more step each n =
    let same : n + 1 ≡ suc n = omega arith in ap (through step each) same

-- a code is the code that its lowest bits are
pub code_in_code : (d z : ℕ) → IsCode d z → code_in d z ≡ z
code_in_code d z code = mod-eq_of_lt code

module _ (step : ℕ → ℕ → ℕ) (grows : (so_far apart : ℕ) → so_far ≤ step so_far apart) where
  -- the numbers up to one come to no more than all
  pub through_grows : (each : ℕ → ℕ) (n more : ℕ) → through step each n ≤ through step each (n + more)
  through_grows each n zero =
      let same : n ≡ n + 0 = omega arith in
      let whole = ap (through step each) same in omega (arith, whole)
  through_grows each n (suc more) =
      let same : n + more + 1 ≡ n + suc more = omega arith in
      let whole = ap (through step each) same in
      omega (
        arith,
        whole,
        through_more step each (n + more),
        grows (through step each (n + more)) (each (n + more)),
        through_grows each n more,
      )

  -- so does one step among them
  pub step_within : (each : ℕ → ℕ) (n c : ℕ) → c < n →
      step (through step each c) (each c) ≤ through step each n
  step_within each n c less =
      let same : c + 1 + (n - (c + 1)) ≡ n = omega arith in
      let whole = ap (through step each) same in
      omega (arith, whole, through_more step each c, through_grows each (c + 1) (n - (c + 1)))
