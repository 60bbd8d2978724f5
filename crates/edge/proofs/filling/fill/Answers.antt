use Rattle.std.proofs.Common.{◌∙◌, arith}
use Rattle.std.proofs.lemmas.List.{length-take, length-drop, places}
use Rattle.edge.proofs.Parts.{fill-more, fill-ends}
use Rattle.edge.proofs.filling.fill.Goals as goal

pub returns-then-n-eq0-clause-reading : goal.returns-then-n-eq0-clause-reading
returns-then-n-eq0-clause-reading g c =
    let before = c.loop-filled.invariant in
    let read = c.in_ok-n.ensures in
    record {
      files = read.files ∙ before.so_far.files;
      quiet = read.cause.ok ∙ before.so_far.quiet;
      read = fill-ends _ _ _ _ _ _ _ _ _ before.in_range
          (simp (length-take, length-drop) (omega arith)) c.if-n-eq0.true before.so_far.read read.next;
    }

pub loop-filled-preserved : goal.loop-filled-preserved
loop-filled-preserved g c =
    let before = c.loop-filled.invariant in
    let read = c.in_ok-n.ensures in
    record {
      in_range = grind (arith, places);
      so_far = record {
        files = read.files ∙ before.so_far.files;
        quiet = read.cause.ok ∙ before.so_far.quiet;
        read = fill-more _ _ _ _ _ _ _ _ _ before.in_range
            (omega (arith, read.within, c.read.auto.buf)) before.so_far.read read.next;
      };
    }
