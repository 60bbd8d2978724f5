use Rattle.std.proofs.Common.{◌∙◌, sym, arith}
use Rattle.key_points.proofs.Heights.{count-first, count-same, count-new, count-all}
use Rattle.key_points.proofs.alone.count_distinct.Goals.{then-file-i, else-file-i}
use Rattle.key_points.proofs.alone.count_distinct.Goals as goal

pub loop-i-init : goal.loop-i-init
loop-i-init c =
    record {
      counted = c.min-count.ensures
          ∙ sym (count-first c.args.file.now);
      few = omega (arith, c.min-count.ensures);
    }

pub loop-i-preserved : goal.loop-i-preserved
loop-i-preserved c =
    let keys = c.args.file.now in
    let so_far = c.loop-i.invariant in
    elim c.if-file-i.branch [
      | then-file-i w ↦ record {
        counted =
            omega (
              arith,
              so_far.counted,
              w.count-is,
              count-new keys c.loop-i.i c.loop-i.auto.i c.loop-i-test.true w.if-file-i.true,
            );
        few = omega (arith, so_far.few, w.count-is);
      }
      | else-file-i w ↦ record {
        counted =
            omega (
              arith,
              so_far.counted,
              w.count-is,
              count-same keys c.loop-i.i c.loop-i.auto.i c.loop-i-test.true w.if-file-i.false,
            );
        few = omega (arith, so_far.few, w.count-is);
      }
    ]

pub returns : goal.returns
returns c = c.loop-i.invariant.counted ∙ count-all c.args.file.now c.loop-i.i c.loop-i-test.false
