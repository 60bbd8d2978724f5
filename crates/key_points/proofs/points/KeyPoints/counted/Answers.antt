-- As many distinct keys as keys: none repeats, and the keys are the x.
use Rattle.std.proofs.Common.{sym, ◌∙◌, arith}
use Rattle.key_points.proofs.AloneLemmas.{distinct_of-alone, xs_of-alone}
use Rattle.key_points.proofs.Heights.{ys_of-alone}
use Rattle.key_points.proofs.points.KeyPoints.counted.Goals as goal

pub invariant_of-result : goal.invariant_of-result
invariant_of-result c =
    let keys = c.args.keys.now in
    let alone = distinct_of-alone keys (omega (arith, c.requires.counted, c.if-count-keys.true)) in (
      record {
        never_falls = c.requires.never_falls;
        few = c.requires.few;
        heights = c.in_ok-ys.ensures ∙ sym (ys_of-alone keys c.requires.never_falls alone);
      },
      xs_of-alone keys c.requires.never_falls alone,
    )
