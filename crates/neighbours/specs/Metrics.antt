-- How far the point of a number is from a centre, by any metric.
use Rattle.std.specs.Prelude.{ℕ, zero, suc, ◌*◌, ◌%◌, ◌^◌, List, All}
use Rattle.std.specs.List.Sorted.{IsNonDecreasing}
use Rattle.zorder.specs.Codes.{IsCode, coordinate_bits}
use Rattle.neighbours.specs.Around.{apart}

-- what the first n numbers come to, one step after the other
unfoldable pub through : (ℕ → ℕ → ℕ) → (ℕ → ℕ) → ℕ → ℕ
through step each zero = 0
through step each (suc n) = step (through step each n) (each n)

-- the code of d coordinates that a number's lowest bits are: of three coordinates the highest bit doesn't count
abbrev pub code_in : ℕ → ℕ → ℕ
code_in d z = z % 2 ^ (d * coordinate_bits d)

-- how far the point of a number is from the centre, by a metric's step from one coordinate to the next
abbrev pub far : (ℕ → ℕ → ℕ) → ℕ → List ℕ → ℕ → ℕ
far step d centre z = through step (apart d centre (code_in d z)) d

-- codes of d coordinates that never fall
pub record AreInOrder (d : ℕ) (codes : List ℕ) : Type 0 where
  pub never_falls : IsNonDecreasing codes
  pub each : All (IsCode d) codes
