-- So far the slopes fall from vertex to vertex, a step for each.
use Rattle.std.proofs.Common.{length, ◌-◌, ◌≡◌, ℕ, ◌+◌, ◌<◌, ◌≤◌}
use Rattle.exact_cross.specs.Slopes.{IsAtMost}
use Rattle.hulls.specs.Vertices.{vertex_at, lifted_slope}
use Rattle.hulls.proofs.search.tangent_to.Given as goal

abbrev pub invariant-loop-vertex : goal.invariant-loop-vertex
invariant-loop-vertex g l = record {
  onward : l.from ≤ l.vertex;
  inside : l.vertex < length l.vertices;
  slope : l.slope.slope ≡ lifted_slope (vertex_at l.vertices l.vertex) l.next l.lift;
  falls : (k : ℕ) → l.from ≤ k → k < l.vertex → IsAtMost (lifted_slope (vertex_at l.vertices k) l.next l.lift)
      (lifted_slope (vertex_at l.vertices (k + 1)) l.next l.lift) → ⊥;
  cost : l.steps + l.from ≤ l.fn.steps + l.vertex;
}

abbrev pub decreases-loop-vertex : goal.decreases-loop-vertex
decreases-loop-vertex g l = length l.vertices - l.vertex
