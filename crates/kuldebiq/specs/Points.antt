-- Points and regions as C hands them in, and which of them are refused.
use Rattle.std.specs.Prelude.{◌≡◌, ℕ, ◌^◌, ◌<◌, ◌≤◌, List, length, slice_index}
use Rattle.std.specs.Fork.{slice_chunk}
use Rattle.zorder.specs.declared.regions.Region.{Region}
use Rattle.zorder.specs.Codes.{IsDimension, code, coordinate_bits}
use Rattle.kuldebiq.specs.declared.box_calls.RegionParts.{RegionParts}

-- the region of the parts
abbrev pub region_of : RegionParts → Region
region_of parts = record { d = parts.dims; low = parts.low; high = parts.high }

-- coordinate c of the parts has an interval: its low is at most its high, and its high is in range
abbrev pub HasInterval : RegionParts → ℕ → Type 0
HasInterval parts c =
    (slice_index parts.low c ≤ slice_index parts.high c) × (slice_index parts.high c < 2 ^ coordinate_bits parts.dims)

-- the parts have two, three or four coordinates, and each has an interval
pub record AreRegion (parts : RegionParts) : Type 0 where
  pub dimension : IsDimension parts.dims
  pub intervals : (c : ℕ) → c < parts.dims → HasInterval parts c

-- of the coordinates this one, and none before it, has no interval
pub record IsFirstWithout (parts : RegionParts) (place : ℕ) : Type 0 where
  pub inside : place < parts.dims
  pub before : (c : ℕ) → c < place → HasInterval parts c
  pub without : HasInterval parts place → ⊥

-- at this place, and at none before it, stands a number that is no coordinate of a point of so many
pub record IsFirstTooGreat (dims : ℕ) (coordinates : List ℕ) (place : ℕ) : Type 0 where
  pub inside : place < length coordinates
  pub before : (c : ℕ) → c < place → slice_index coordinates c < 2 ^ coordinate_bits dims
  pub great : 2 ^ coordinate_bits dims ≤ slice_index coordinates place

-- these are the codes of the first `count` points, whose coordinates stand one point behind the other
abbrev pub AreCodesOf : ℕ → List ℕ → List ℕ → ℕ → Type 0
AreCodesOf dims coordinates codes count =
    (i : ℕ) → i < count → slice_index codes i ≡ code dims (slice_chunk coordinates dims i)
