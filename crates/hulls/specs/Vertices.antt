-- Vertices of a hull, and the slopes between them.
use Rattle.std.specs.Prelude.{ℕ, ◌+◌, ◌-◌, ◌<◌, ◌≤◌, pos, ◌-ℤ◌, List, length, slice_index_or}
use Rattle.exact_cross.specs.declared.slope.Slope.{Slope}
use Rattle.exact_cross.specs.Slopes.{IsAtMost}
use Rattle.hulls.specs.declared.vertex.Vertex.{Vertex}

-- the vertex at a place of the list
abbrev pub vertex_at : List Vertex → ℕ → Vertex
vertex_at vertices k = slice_index_or vertices k (record { x = 0; height = 0; place = 0 })

-- the vertex of these numbers
abbrev pub vertex_of : ℕ → ℕ → ℕ → Vertex
vertex_of x height place = record { x = x; height = height; place = place }

-- from a vertex to `lift` above another one
abbrev pub lifted_slope : Vertex → Vertex → ℕ → Slope
lifted_slope low high lift = record { rise = pos (high.height + lift) -ℤ pos low.height; run = high.x - low.x }

-- the vertices from t on rise to the right, and all lie left of the last one
pub record AreLeftOf (vertices : List Vertex) (t : ℕ) (last : Vertex) : Type 0 where
  pub left : (k : ℕ) → t ≤ k → k < length vertices → (vertex_at vertices k).x < last.x
  pub rise : (k : ℕ) → t ≤ k → k + 1 < length vertices → (vertex_at vertices k).x < (vertex_at vertices (k + 1)).x

-- from one vertex by way of the next to a third it doesn't turn down
abbrev pub IsNoTurn : Vertex → Vertex → Vertex → Type 0
IsNoTurn first second third = IsAtMost (lifted_slope first second 0) (lifted_slope second third 0)
