use Rattle.std.proofs.Common.{◌/◌, ◌^◌, ◌<◌, length, arith}
use Rattle.std.proofs.Math.Nat.{div-le_self}
use Rattle.std.proofs.lemmas.List.Elements.{All-from_get_or}
use Rattle.zorder.specs.Codes.{coordinate_bits}
use Rattle.index_tests.proofs.boxes_rows.are_points.Goals as goal

pub returns : goal.returns
returns g c =
    let n = length c.args.points.now in
    record {
      count = n / c.args.d;
      few = omega (arith, div-le_self n c.args.d, c.loop-value.invariant.few);
      whole = omega (arith, c.loop-value.invariant.whole);
      range = All-from_get_or (λ value. value < 2 ^ coordinate_bits c.args.d) c.args.points.now 0
          (λ i inside. c.loop-value.invariant.range i (omega arith));
    }
