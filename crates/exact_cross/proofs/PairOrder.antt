-- Pairs: each run of two places or more has a steep and a flat pair, the first best of its pairs.
--
-- Main results: `IsSteepPair-some`, `IsFlatPair-some`, `IsAtMost-decided`.
use Rattle.std.proofs.Common.{◌⊎◌, ℕ, ◌+◌, ◌-◌, ◌*◌, ◌<◌, ◌≤◌, inl, inr, arith}
use Rattle.exact_cross.specs.Points.{Points, IsAscending}
use Rattle.exact_cross.specs.Slopes.{IsAtMost, steep_slope, flat_slope}
use Rattle.exact_cross.specs.Steep.{IsPair, IsSteepPair, IsFlatPair}
use Rattle.exact_cross.specs.declared.slope.Slope.{Slope}
use Rattle.std.proofs.lemmas.Bool.{cases_lt}
use borrow.Author.Differences.{up, down}
use Rattle.exact_cross.proofs.Cleared.{products_le-in, IsAtMost-out, IsAtMost-in}
use Rattle.exact_cross.proofs.SlopeOrder.{IsAtMost-refl, IsAtMost-trans, IsAtMost-total}
use Rattle.exact_cross.proofs.BestPair.{IsFirstBestPair, OrdersPairs, IsFirstBestPair-two_places, IsFirstBestPair-some}

-- a slope is at most another one, or it isn't
pub IsAtMost-decided : (f g : Slope) → IsAtMost f g ⊎ (IsAtMost f g → ⊥)
IsAtMost-decided f g =
    let left = up f.rise * g.run + down g.rise * f.run in
    let right = up g.rise * f.run + down f.rise * g.run in
    elim (cases_lt right left) [
      | inl more ↦ inr (λ most. omega (arith, more, IsAtMost-out f g most))
      | inr less ↦ inl (IsAtMost-in f g (omega arith))
    ]

-- a pair's flat slope isn't above its steep one
pub flat_at_most_own_steep : (p : Points) (eps a b : ℕ) → IsAtMost (flat_slope p eps a b) (steep_slope p eps a b)
flat_at_most_own_steep p eps a b =
    record {
      at_most = products_le-in
          (p.y b) (p.y a + 2 * eps) (p.x b - p.x a) (p.y b + 2 * eps) (p.y a) (p.x b - p.x a) (omega arith);
    }

wide : (p : Points) (a b : ℕ) → IsAscending p → a < b → b < p.count → 0 < p.x b - p.x a
wide p a b ascends rises inside = let right : p.x a < p.x b = ascends.x_rises a b rises inside in omega arith

-- the pair (a, b) is as steep as (c, d) at most
abbrev IsLessSteep : Points → ℕ → ℕ → ℕ → ℕ → ℕ → Type 0
IsLessSteep p eps a b c d = IsAtMost (steep_slope p eps a b) (steep_slope p eps c d)

steep_order : (p : Points) (eps : ℕ) → IsAscending p → OrdersPairs (IsLessSteep p eps) p.count
steep_order p eps ascends = record {
  chain = λ a b c d e f rises inside. IsAtMost-trans
      (steep_slope p eps a b) (steep_slope p eps c d) (steep_slope p eps e f) (wide p c d ascends rises inside);
  total = λ a b c d. IsAtMost-total (steep_slope p eps a b) (steep_slope p eps c d);
  decided = λ a b c d. IsAtMost-decided (steep_slope p eps a b) (steep_slope p eps c d);
}

steep_from_best : (p : Points) (eps s e a b : ℕ) →
    IsFirstBestPair (IsLessSteep p eps) (IsPair s e) a b → IsSteepPair p eps s e a b
steep_from_best p eps s e a b best = record { pair = best.inside; least = best.best; first = best.first }

pub IsSteepPair-two_places : (p : Points) (eps s : ℕ) → IsSteepPair p eps s (s + 2) s (s + 1)
IsSteepPair-two_places p eps s =
    steep_from_best p eps s (s + 2) s
    (s + 1) (IsFirstBestPair-two_places (IsLessSteep p eps) s (IsAtMost-refl (steep_slope p eps s (s + 1))))

pub IsSteepPair-some : (p : Points) (eps s e : ℕ) →
    IsAscending p → s + 1 < e → e ≤ p.count → (a : ℕ) × (b : ℕ) × IsSteepPair p eps s e a b
IsSteepPair-some p eps s e ascends more inside =
    let best = IsFirstBestPair-some
    (IsLessSteep p eps) p.count s (steep_order p eps ascends) (e - (s + 2)) e (omega arith) inside in
    (best.0, best.1, steep_from_best p eps s e best.0 best.1 best.2)

-- the flat slope of the pair (a, b) is as great as that of (c, d) at least
abbrev IsLessFlat : Points → ℕ → ℕ → ℕ → ℕ → ℕ → Type 0
IsLessFlat p eps a b c d = IsAtMost (flat_slope p eps c d) (flat_slope p eps a b)

flat_order : (p : Points) (eps : ℕ) → IsAscending p → OrdersPairs (IsLessFlat p eps) p.count
flat_order p eps ascends = record {
  chain = λ a b c d e f rises inside one two. IsAtMost-trans
      (flat_slope p eps e f) (flat_slope p eps c d) (flat_slope p eps a b) (wide p c d ascends rises inside) two one;
  total = λ a b c d. IsAtMost-total (flat_slope p eps c d) (flat_slope p eps a b);
  decided = λ a b c d. IsAtMost-decided (flat_slope p eps c d) (flat_slope p eps a b);
}

pub IsFlatPair-some : (p : Points) (eps s e : ℕ) →
    IsAscending p → s + 1 < e → e ≤ p.count → (a : ℕ) × (b : ℕ) × IsFlatPair p eps s e a b
IsFlatPair-some p eps s e ascends more inside =
    let best = IsFirstBestPair-some
    (IsLessFlat p eps) p.count s (flat_order p eps ascends) (e - (s + 2)) e (omega arith) inside in
    (best.0, best.1, record { pair = best.2.inside; greatest = best.2.best; first = best.2.first })
