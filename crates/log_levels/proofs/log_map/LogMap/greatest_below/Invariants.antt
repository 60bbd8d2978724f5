use Rattle.log_levels.proofs.DescentLemmas.{AreTaken, IsGreatestOf}
use Rattle.log_levels.proofs.log_map.LogMap.greatest_below.Given as goal

-- the entry of the greatest key so far
abbrev pub invariant-loop-rest : goal.invariant-loop-rest
invariant-loop-rest l = record {
  rest : AreTaken l.self l.rest;
  greatest : IsGreatestOf l.self l.rest l.end l.greatest;
}

abbrev pub decreases-loop-rest : goal.decreases-loop-rest
decreases-loop-rest l = l.rest
