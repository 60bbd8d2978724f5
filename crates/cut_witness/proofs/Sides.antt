-- The two sides' inequalities, as tests of two sums.
use Rattle.std.proofs.Common.{◌↔◌, ℕ, ◌+◌, ◌*◌, ◌-◌, ◌≤◌, ltb, IsTrue, arith}
use Rattle.std.proofs.lemmas.Bool.{ltb-true, lt-ltb}
use Rattle.exact_cross.specs.Points.{Points}
use Rattle.exact_cross.specs.Witnesses.{IsOver, IsUnder}
use Rattle.exact_cross.proofs.CallerLemmas.{IsOver-sums, IsOver-from_sums, IsUnder-sums, IsUnder-from_sums}

pub IsOver-decided : (p : Points) (eps a b r : ℕ) → p.x a ≤ p.x b → p.x b ≤ p.x r →
    IsTrue
    (ltb (p.y b * (p.x r - p.x a) + 2 * eps * (p.x r - p.x a)) (p.y a * (p.x r - p.x b) + p.y r * (p.x b - p.x a)))
    ↔ IsOver p eps a b r
IsOver-decided p eps a b r left right = (
  λ test. IsOver-from_sums p eps a b r left right (omega (arith, ltb-true _ _ test)),
  λ over. lt-ltb _ _ (omega (arith, IsOver-sums p eps a b r left right over)),
)

pub IsUnder-decided : (p : Points) (eps a b r : ℕ) → p.x a ≤ p.x b → p.x b ≤ p.x r →
    IsTrue
    (ltb (p.y a * (p.x r - p.x b) + p.y r * (p.x b - p.x a) + 2 * eps * (p.x r - p.x a)) (p.y b * (p.x r - p.x a)))
    ↔ IsUnder p eps a b r
IsUnder-decided p eps a b r left right = (
  λ test. IsUnder-from_sums p eps a b r left right (omega (arith, ltb-true _ _ test)),
  λ under. lt-ltb _ _ (omega (arith, IsUnder-sums p eps a b r left right under)),
)
