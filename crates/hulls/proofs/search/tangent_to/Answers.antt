-- The slope fell from the vertex so far to the next one.
use Rattle.std.proofs.Common.{◌≡◌, ℕ, ◌+◌, ◌<◌, ◌≤◌, inl, inr, subst, sym, rules, arith}
use Rattle.std.proofs.lemmas.Bool.{cases_lt}
use Rattle.exact_cross.specs.declared.slope.Slope.{Slope}
use Rattle.exact_cross.specs.Slopes.{IsAtMost}
use Rattle.hulls.specs.Vertices.{vertex_at, lifted_slope}
use Rattle.hulls.proofs.search.tangent_to.Goals as goal

-- what holds below i and at i holds below i + 1
fallen_more : (slope : ℕ → Slope) (from i : ℕ) →
    ((k : ℕ) → from ≤ k → k < i → IsAtMost (slope k) (slope (k + 1)) → ⊥) → (IsAtMost (slope i) (slope (i + 1)) → ⊥) →
    (k : ℕ) → from ≤ k → k < i + 1 → IsAtMost (slope k) (slope (k + 1)) → ⊥
fallen_more slope from i before here k low high = elim (cases_lt k i) [
  | inl less ↦ before k low less
  | inr more ↦ let same : k ≡ i = omega arith in
      subst (λ (n : ℕ). IsAtMost (slope n) (slope (n + 1)) → ⊥) (sym same) here
]

pub loop-vertex-preserved : goal.loop-vertex-preserved
loop-vertex-preserved g c =
    let slope : c.between-further.result.slope ≡ lifted_slope
    (vertex_at c.args.vertices.now (c.loop-vertex.vertex + 1)) c.args.next c.args.lift = search rules in
    let fell : IsAtMost c.loop-vertex.slope.slope c.between-further.result.slope → ⊥ = search rules in
    record {
      onward = omega arith;
      inside = omega arith;
      slope = slope;
      falls = fallen_more (λ k. lifted_slope (vertex_at c.args.vertices.now k) c.args.next c.args.lift)
          c.args.from c.loop-vertex.vertex c.loop-vertex.invariant.falls
          (rw (c.loop-vertex.invariant.slope, slope) at fell);
      cost = omega arith;
    }
