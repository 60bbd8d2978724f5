use Rattle.std.proofs.Common.{◌+◌, ◌≤◌, length}
use Rattle.pgm_script.proofs.ScriptLemmas.{IsUnderWay}
use Rattle.pgm_script.proofs.grammar.parse_as.Given as goal

abbrev pub invariant-loop-rest : goal.invariant-loop-rest
invariant-loop-rest g l = record {
  under_way : IsUnderWay l.kind l.text l.rest (g.L.LineList.lines l.list) l.number;
  room : l.number + length l.rest ≤ length l.text;
}

abbrev pub decreases-loop-rest : goal.decreases-loop-rest
decreases-loop-rest g l = length l.rest
