use Rattle.std.proofs.Common.{◌∷◌, [], length, take, slice_index, ap, ◌∙◌, length-append, arith, ◌≡◌, ◌+◌}
use Rattle.key_points.specs.KeyPoints.{distinct_of}
use Rattle.key_points.proofs.GroupLemmas.{distinct_of-group}
use Rattle.key_points.proofs.Heights.{group-more, next-group}
use Rattle.key_points.proofs.parts.parts_of.Goals as goal

pub add_group-requires-clause-xs_room : goal.add_group-requires-clause-xs_room
add_group-requires-clause-xs_room c =
    let inv = c.loop-at.invariant in
    omega (
      arith,
      group-more c.args.file.now c.loop-at.at c.end_of-end.result c.requires.never_falls
          (inv.start c.loop-at-test.true) c.end_of-end.ensures,
      c.requires.counted,
      c.end_of-end.ensures.some,
      c.end_of-end.ensures.within,
      inv.xs_few,
      inv.xs_twice,
      inv.xs_room,
    )

pub add_group-requires-clause-ys_room : goal.add_group-requires-clause-ys_room
add_group-requires-clause-ys_room c =
    let inv = c.loop-at.invariant in
    omega (
      arith,
      group-more c.args.file.now c.loop-at.at c.end_of-end.result c.requires.never_falls
          (inv.start c.loop-at-test.true) c.end_of-end.ensures,
      c.requires.counted,
      c.end_of-end.ensures.some,
      c.end_of-end.ensures.within,
      inv.ys_few,
      inv.ys_twice,
      inv.ys_room,
    )

pub loop-at-preserved : goal.loop-at-preserved
loop-at-preserved c =
    let file = c.args.file.now in
    let at = c.loop-at.at in
    let end = c.end_of-end.result in
    let inv = c.loop-at.invariant in
    let start = inv.start c.loop-at-test.true in
    let group = c.end_of-end.ensures in
    let more : length (distinct_of (take end file)) ≡ length (distinct_of (take at file)) + 1 =
    ap length (distinct_of-group file at end c.requires.never_falls start group)
    ∙ length-append (distinct_of (take at file)) (slice_index file at ∷ []) in
    let added = c.add_group.ensures in
    record {
      holds = added.holds;
      start = λ some. next-group file at end start group some;
      xs_few = omega (arith, added.xs_len, inv.xs_few, group.some);
      xs_twice = omega (arith, added.xs_len, inv.xs_twice, more);
      ys_few = omega (arith, added.ys_len, inv.ys_few, group.some);
      ys_twice = omega (arith, added.ys_len, inv.ys_twice, more);
      xs_room = omega (arith, inv.xs_room, added.xs_capacity);
      ys_room = omega (arith, inv.ys_room, added.ys_capacity);
    }
