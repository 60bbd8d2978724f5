-- The codes are those of the points so far.
use Rattle.std.proofs.Common.{◌≡◌, All, vec_len}
use Rattle.zorder.specs.Codes.{IsCode}
use Rattle.boxes.proofs.CodeLists.{first_codes}
use Rattle.boxes.proofs.codes.point_codes.Given as goal

abbrev pub invariant-loop-i : goal.invariant-loop-i
invariant-loop-i l = record {
  items : l.codes.items ≡ first_codes l.d l.points l.i;
  each : All (λ z. IsCode l.d z) l.codes.items;
  len : vec_len l.codes ≡ l.i;
}
