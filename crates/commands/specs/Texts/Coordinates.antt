-- Coordinates as words.
use Rattle.std.specs.Prelude.{ℕ, List, map, decimal}
use Rattle.std.specs.List.{range_with_len}
use Rattle.zorder.specs.Codes.{coordinate}

-- the first n of the d coordinates of a code
abbrev pub coordinate_words : (d code n : ℕ) → List (List ℕ)
coordinate_words d code n = map (λ c. decimal (coordinate d c code)) (range_with_len 0 n)
