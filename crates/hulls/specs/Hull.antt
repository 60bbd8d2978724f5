-- The upper hull of points: what lies under it, and the pair whose lower place it begins at.
use Rattle.std.specs.Prelude.{◌≡◌, ◌⊎◌, ℕ, ◌+◌, ◌*◌, ◌-◌, ◌^◌, ◌<◌, ◌≤◌, pos, ◌+ℤ◌, ◌*ℤ◌, ◌≤ℤ◌, List, length}
use Rattle.exact_cross.specs.declared.slope.Slope.{Slope}
use Rattle.exact_cross.specs.Points.{Points}
use Rattle.exact_cross.specs.Slopes.{IsAtMost, steep_slope, flat_slope}
use Rattle.exact_cross.specs.Steep.{IsPair, IsSteepOf}
use Rattle.hulls.specs.declared.vertex.Vertex.{Vertex}
use Rattle.hulls.specs.declared.hull.Hull.{Hull}
use Rattle.hulls.specs.Slopes.{steepest}
use Rattle.hulls.specs.Vertices.{vertex_at}

-- the point j lies on the chord from i to k, or under it
pub record IsUnderChord (q : Points) (i j k : ℕ) : Type 0 where
  pub under : q.y j * (q.x k - q.x i) ≤ q.y i * (q.x k - q.x j) + q.y k * (q.x j - q.x i)

-- a point is the last vertex, or lies under the edge of the hull that spans it, from a vertex of t..last to the next
abbrev pub IsUnderHull : Points → (ℕ → ℕ) → ℕ → ℕ → ℕ → Type 0
IsUnderHull q v t last j =
    (j ≡ v last) ⊎ ((k : ℕ) × (t ≤ k) × (k < last) × (v k ≤ j) × (j < v (k + 1)) × IsUnderChord q (v k) j (v (k + 1)))

-- a point that can't be the lower place of a pair with a later one: a pair of places before it has a
-- flat slope that is no less than that to it, and so the upper place of these has the lesser slope
abbrev pub IsShadowed : Points → ℕ → ℕ → ℕ → Type 0
IsShadowed q eps s j = (c : ℕ) × (d : ℕ) × IsPair s j c d × IsAtMost (flat_slope q eps c j) (flat_slope q eps c d)

-- the places v t, .., v last are the upper hull of the points from
-- the first of them on, before e, but for those that are shadowed
pub record IsUpperHull (q : Points) (eps s : ℕ) (v : ℕ → ℕ) (t last e : ℕ) : Type 0 where
  pub some : t ≤ last
  pub rise : (k : ℕ) → t ≤ k → k < last → v k < v (k + 1)
  pub end : v last < e
  pub turns : (k : ℕ) → t ≤ k → k + 2 ≤ last → IsUnderChord q (v k) (v (k + 1)) (v (k + 2)) → ⊥
  pub under : (j : ℕ) → v t ≤ j → j < e → IsUnderHull q v t last j ⊎ IsShadowed q eps s j

-- the point c lies on the line through the point a with this slope, or under it
pub record IsUnderLine (q : Points) (a : ℕ) (slope : Slope) (c : ℕ) : Type 0 where
  pub under :
      (pos (q.y c * slope.run) +ℤ slope.rise *ℤ pos (q.x a)) ≤ℤ (pos (q.y a * slope.run) +ℤ slope.rise *ℤ pos (q.x c))

-- the x of the points rise
pub record RiseRight (q : Points) : Type 0 where
  pub rises : (i j : ℕ) → i < j → j < q.count → q.x i < q.x j

-- the vertex is the point at its place
pub record IsVertexOf (q : Points) (vertex : Vertex) : Type 0 where
  pub inside : vertex.place < q.count
  pub x : vertex.x ≡ q.x vertex.place
  pub height : vertex.height ≡ q.y vertex.place

-- the pair of the run s..e with its slope, and all points of the
-- run under its line; a run of one point has the steepest slope
pub record IsPairOf (q : Points) (eps s e a b : ℕ) (slope : Slope) : Type 0 where
  pub some : s < e
  pub pair : IsSteepOf q eps s e a b
  pub one : e ≡ s + 1 → slope ≡ steepest
  pub more : s + 1 < e → slope ≡ steep_slope q eps a b
  pub under : (c : ℕ) → s ≤ c → c < e → IsUnderLine q a slope c

-- the hull of the points before `hulled`, on which the pair of the run s..paired begins
pub record IsHullOn
    (q : Points) (eps s hulled paired : ℕ) (vertices : List Vertex) (tangent upper : ℕ) (slope : Slope) : Type 0 where
  pub inside : tangent < length vertices
  pub few : s + length vertices ≤ hulled
  pub are_points : (k : ℕ) → tangent ≤ k → k < length vertices → IsVertexOf q (vertex_at vertices k)
  pub upper_hull : IsUpperHull q eps s (λ k. (vertex_at vertices k).place) tangent (length vertices - 1) hulled
  pub pair : IsPairOf q eps s paired (vertex_at vertices tangent).place upper slope

-- the place at which the pair's line begins
abbrev pub lower_of : Hull → ℕ
lower_of hull = (vertex_at hull.vertices.items hull.tangent).place

-- the place of the last vertex
abbrev pub last_of : Hull → ℕ
last_of hull = (vertex_at hull.vertices.items (length hull.vertices.items - 1)).place

-- how many vertices stand past the tangent's
abbrev pub spare_of : Hull → ℕ
spare_of hull = length hull.vertices.items - 1 - hull.tangent

abbrev pub IsHullUpTo : Points → ℕ → ℕ → ℕ → ℕ → Hull → Type 0
IsHullUpTo q eps s hulled paired hull =
    IsHullOn q eps s hulled paired hull.vertices.items hull.tangent hull.upper hull.slope.slope

-- the hull and the pair of the run s..e
abbrev pub IsHullOf : Points → ℕ → ℕ → ℕ → Hull → Type 0
IsHullOf q eps s e hull = IsHullUpTo q eps s e e hull

-- the vertex is the point at the place e of points that rise to the right, and its height has 32 bits
pub record IsNextVertex (q : Points) (e : ℕ) (vertex : Vertex) : Type 0 where
  pub right : RiseRight q
  pub place : vertex.place ≡ e
  pub point : IsVertexOf q vertex
  pub low : vertex.height < 2 ^ 32

-- the place m lies under no pair of the run s..e
pub record IsFittable (q : Points) (eps s e m : ℕ) : Type 0 where
  pub not_under : (c d : ℕ) → IsPair s e c d → IsAtMost (flat_slope q eps c d) (steep_slope q eps d m)

-- what the places e - 1 and m ask of a line or of a slope, those between
-- them ask as well, so that the run s..e may go on to the place m past them
pub record IsPassed (q : Points) (eps s e m : ℕ) : Type 0 where
  pub order : e ≤ m
  pub under : (a : ℕ) (slope : Slope) →
      IsUnderLine q a slope (e - 1) → IsUnderLine q a slope m → (c : ℕ) → e ≤ c → c < m → IsUnderLine q a slope c
  pub least : (slope : Slope) → ((c d : ℕ) → IsPair s e c d → IsAtMost slope (steep_slope q eps c d)) →
      ((c : ℕ) → s ≤ c → c < e → IsAtMost slope (steep_slope q eps c m)) →
      (c d : ℕ) → IsPair s (m + 1) c d → e ≤ d → (d ≡ m → e ≤ c) → IsAtMost slope (steep_slope q eps c d)
  pub less : (slope : Slope) → ((c d : ℕ) → IsPair s e c d → IsAtMost (steep_slope q eps c d) slope → ⊥) →
      ((c : ℕ) → s ≤ c → c < e → IsAtMost slope (steep_slope q eps c m)) →
      (c d : ℕ) → IsPair s (m + 1) c d → e ≤ d → (d ≡ m → e ≤ c) → IsAtMost (steep_slope q eps c d) slope → ⊥

-- the places e..m - 1 lie under the chord from the hull's last vertex to the place m
abbrev pub AreSpanned : Points → Hull → ℕ → ℕ → Type 0
AreSpanned q hull e m = (j : ℕ) → e ≤ j → j < m → IsUnderChord q (last_of hull) j m
