use Rattle.std.proofs.Common.{◌≡◌, sym, ap, ◌∙◌, arith}
use Rattle.near.proofs.Distances.{distance-is, greatest_apart}
use Rattle.near.proofs.around.distance_from.Goals as goal

pub returns : goal.returns
returns c =
    let last : c.loop-c.c ≡ c.args.d = omega arith in
    c.loop-c.invariant ∙ ap (greatest_apart c.args.d c.args.centre.now c.args.z) last
    ∙ sym (distance-is c.args.d c.args.centre.now c.args.z)
