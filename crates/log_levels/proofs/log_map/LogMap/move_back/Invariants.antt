use Rattle.log_levels.proofs.DescentLemmas.{AreMoved, AreTaken}
use Rattle.log_levels.proofs.log_map.LogMap.move_back.Given as goal

-- the places that were moved so far
abbrev pub invariant-loop-rest : goal.invariant-loop-rest
invariant-loop-rest l = record {
  rest : AreTaken l.self l.rest;
  moved : AreMoved l.self l.initial.places l.places l.rest l.key;
}

abbrev pub decreases-loop-rest : goal.decreases-loop-rest
decreases-loop-rest l = l.rest
