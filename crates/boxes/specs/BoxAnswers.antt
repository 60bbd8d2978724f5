-- What a region asks for of sorted codes, and at how many of them it has to be looked.
-- Source: H. Tropf and H. Herzog, Multidimensional range search
-- in dynamically balanced trees, Angewandte Informatik 2/1981.
use Rattle.std.specs.Prelude.{ℕ, ◌-◌, ◌<◌, ◌≤◌, ◌&&◌, Bool, nat_le, List, length, filter, slice_index}
use Rattle.std.specs.List.{list_all, range_with_len}
use Rattle.zorder.specs.declared.regions.Region.{Region}
use Rattle.zorder.specs.Codes.{IsCode, coordinate}
use Rattle.zorder.specs.Regions.{IsInside}
use Rattle.boxes.specs.Places.{IsCountOf}

-- coordinate c of the code z lies between the region's low and its high, both included
abbrev pub is_between : Region → ℕ → ℕ → Bool
is_between region z c =
    nat_le (slice_index region.low c) (coordinate region.d c z)
    && nat_le (coordinate region.d c z) (slice_index region.high c)

-- each coordinate does: the test of `IsInside`
unfoldable pub is_inside : Region → ℕ → Bool
is_inside region z = list_all (is_between region z) (range_with_len 0 region.d)

-- the codes that are inside the region, in their order
abbrev pub codes_inside : Region → List ℕ → List ℕ
codes_inside region codes = filter (is_inside region) codes

-- place j is looked at: some code inside the region is at most the code there, and not below the one before it
pub record IsLookedAt (region : Region) (codes : List ℕ) (j : ℕ) : Type 0 where
  pub z : ℕ
  pub code : IsCode region.d z
  pub inside : IsInside region z
  pub to : z ≤ slice_index codes j
  pub from : 0 < j → slice_index codes (j - 1) ≤ z

-- so many places are looked at
abbrev pub IsLooked : Region → List ℕ → ℕ → Type 0
IsLooked region codes looked = IsCountOf (IsLookedAt region codes) (length codes) looked

-- an answer: the codes inside, and at how many places was looked
pub record BoxAnswer : Type 0 where
  pub codes : List ℕ
  pub looked : ℕ
