-- The slope of a run before it has a pair.
use Rattle.std.specs.Prelude.{pos}
use Rattle.exact_cross.specs.declared.slope.Slope.{Slope}

-- steeper than any two points of 64 and 32 bits with the bound between them
abbrev pub steepest : Slope
steepest = record { rise = pos 1099511627776; run = 1 }
