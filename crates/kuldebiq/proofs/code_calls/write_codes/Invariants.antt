-- The codes of the points so far are written, and what lies behind stays.
use Rattle.hints.specs.Lookups.{IsSameOutside}
use Rattle.kuldebiq.specs.Points.{AreCodesOf}
use Rattle.kuldebiq.proofs.code_calls.write_codes.Given as goal

abbrev pub invariant-loop-i : goal.invariant-loop-i
invariant-loop-i l = record {
  codes : AreCodesOf l.dims l.coordinates l.codes l.i;
  rest : IsSameOutside 0 l.i l.fn.codes l.codes;
}
