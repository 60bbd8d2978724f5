-- So far each vertex from `kept` on is straight on or up to the next point, and took a step.
use Rattle.std.proofs.Common.{length, ◌-◌, ℕ, ◌+◌, ◌<◌, ◌≤◌}
use Rattle.hulls.specs.Vertices.{vertex_at, IsNoTurn}
use Rattle.hulls.proofs.search.kept_before.Given as goal

abbrev pub invariant-loop-kept : goal.invariant-loop-kept
invariant-loop-kept g l = record {
  some : l.tangent < l.kept;
  inside : l.kept ≤ length l.vertices;
  dropped : (k : ℕ) → l.kept ≤ k + 1 →
      k + 1 < length l.vertices → IsNoTurn (vertex_at l.vertices k) (vertex_at l.vertices (k + 1)) l.next;
  cost : l.steps + l.kept ≤ l.fn.steps + length l.vertices;
}

abbrev pub decreases-loop-kept : goal.decreases-loop-kept
decreases-loop-kept g l = l.kept - l.tangent
