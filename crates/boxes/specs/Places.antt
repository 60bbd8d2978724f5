-- How many numbers have a property.
use Rattle.std.specs.Prelude.{◌≡◌, ℕ, ◌<◌, ◌↔◌, List, length, Contains}
use Rattle.std.specs.List.Sorted.{IsStrictlyIncreasing}

-- of the numbers below n, this many have the property: as many as the list has that holds just them, in rising order
pub record IsCountOf (P : ℕ → Type 0) (n count : ℕ) : Type 0 where
  pub places : List ℕ
  pub rises : IsStrictlyIncreasing places
  pub exact : (j : ℕ) → Contains places j ↔ ((j < n) × P j)
  pub number : count ≡ length places
