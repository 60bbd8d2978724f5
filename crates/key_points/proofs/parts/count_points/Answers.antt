-- A group has one point more, or two where it is closed.
use Rattle.std.proofs.Common.{◌+◌, ◌∷◌, [], List, ℕ, length, take, slice_index, sym, ap, ◌∙◌, length-append, arith}
use Rattle.std.specs.List.{flat_map}
use Rattle.key_points.specs.KeyPoints.{distinct_of, with_closing}
use Rattle.key_points.proofs.AloneLemmas.{distinct_of-alone, xs_of-alone}
use Rattle.key_points.proofs.GroupLemmas.{xs-more, points-alone, points-closed}
use Rattle.key_points.proofs.Heights.{next-group}
use Rattle.key_points.proofs.parts.count_points.Goals.{then-is_closed_group, else-is_closed_group}
use Rattle.key_points.proofs.parts.count_points.Goals as goal

pub returns-then-count-file : goal.returns-then-count-file
returns-then-count-file c =
    let file = c.args.file.now in
    let alone = distinct_of-alone file (omega (arith, c.requires.counted, c.if-count-file.true)) in
    omega (arith, c.if-count-file.true, ap length (xs_of-alone file c.requires.never_falls alone))

pub loop-at-preserved : goal.loop-at-preserved
loop-at-preserved c =
    let file = c.args.file.now in
    let at = c.loop-at.at in
    let end = c.end_of-end.result in
    let key = slice_index file at in
    let inv = c.loop-at.invariant in
    let start = inv.start c.loop-at-test.true in
    let group = c.end_of-end.ensures in
    let so_far : List ℕ = flat_map (with_closing file) (distinct_of (take at file)) in
    let told = c.is_closed_group.ensures in
    elim c.if-is_closed_group.branch [
      | then-is_closed_group w ↦
          let is = points-closed file at end c.requires.never_falls start group
          (sym told.closed ∙ w.if-is_closed_group.true) in
          let more = ap length (xs-more file at end c.requires.never_falls start group (key ∷ (key + 1) ∷ []) is)
          ∙ length-append so_far (key ∷ (key + 1) ∷ []) in
          record {
            inside = group.within;
            counted = omega (arith, inv.counted, w.points-is, more);
            few = omega (arith, inv.few, w.points-is, told.many w.if-is_closed_group.true);
            start = λ some. next-group file at end start group some;
          }
      | else-is_closed_group w ↦
          let is = points-alone file at end c.requires.never_falls start group
          (sym told.closed ∙ w.if-is_closed_group.false) in
          let more = ap length (xs-more file at end c.requires.never_falls start group (key ∷ []) is)
          ∙ length-append so_far (key ∷ []) in
          record {
            inside = group.within;
            counted = omega (arith, inv.counted, w.points-is, more);
            few = omega (arith, inv.few, w.points-is, group.some);
            start = λ some. next-group file at end start group some;
          }
    ]
