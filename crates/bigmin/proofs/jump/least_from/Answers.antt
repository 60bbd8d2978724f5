-- One more coordinate.
use Rattle.std.proofs.Common.{◌≡◌, max, sym}
use Rattle.zorder.specs.Dilated.{dilated}
use Rattle.bigmin.proofs.GreaterLemmas.{made_more, others_more}
use Rattle.bigmin.proofs.jump.least_from.Goals as goal

pub loop-c-preserved : goal.loop-c-preserved
loop-c-preserved c =
    let a = c.args in
    let is : c.max-code.result ≡ max (dilated a.d c.loop-c.c a.first) (dilated a.d c.loop-c.c a.low) =
    rw (sym c.dilated_coordinate.ensures, sym c.dilated_coordinate-in-loop-c.ensures) c.max-code.ensures in
    record {
      made = λ i. made_more a.d c.loop-c.c a.first a.low c.loop-c.code c.max-code.result i is
          (c.loop-c.invariant.made i) (c.loop-c.invariant.others i);
      others = λ i.
          others_more a.d c.loop-c.c a.first a.low c.loop-c.code c.max-code.result i is (c.loop-c.invariant.others i);
    }
