-- The next code in a region (BIGMIN).
-- Source: H. Tropf and H. Herzog, Multidimensional range search
-- in dynamically balanced trees, Angewandte Informatik 2/1981.
use Rattle.std.specs.Prelude.{ℕ, ◌<◌, ◌≤◌}
use Rattle.zorder.specs.declared.regions.Region.{Region}
use Rattle.zorder.specs.Codes.{IsCode}
use Rattle.zorder.specs.Regions.{IsInside}

-- next is the least code above z that is inside the region
pub record IsNextInBox (region : Region) (z next : ℕ) : Type 0 where
  pub code : IsCode region.d next
  pub above : z < next
  pub inside : IsInside region next
  pub least : (w : ℕ) → IsCode region.d w → z < w → IsInside region w → next ≤ w

-- no code above z is inside the region
abbrev pub HasNoNext : Region → ℕ → Type 0
HasNoNext region z = (w : ℕ) → IsCode region.d w → z < w → IsInside region w → ⊥
