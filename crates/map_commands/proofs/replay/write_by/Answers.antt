use Rattle.std.proofs.Common.{[], sym, subst}
use Rattle.std.proofs.lemmas.List.Elements.{All-nil}
use Rattle.written.specs.Writing.{Writes, BreaksOff}
use Rattle.written.proofs.WritingLemmas.{broken_text}
use Rattle.map_commands.specs.MapLines.{all_lines}
use Rattle.map_commands.proofs.MapLineLemmas.{is_replayed, same_lines}
use Rattle.map_commands.proofs.replay.write_by.Goals as goal

pub returns : goal.returns
returns g c =
    let history = c.args.history.now in
    let updates = history.updates.items in
    let questions = history.questions.items in (
      all_lines [] updates questions [],
      is_replayed updates questions history.plan.batch [] history.plan.readers (sym c.requires.alone) (All-nil _),
      subst (Writes g.S.Sink c.args.out.now c.write_lines.new.out)
          (same_lines [] c.deref.ensures.value c.deref-2.ensures.value) c.in_ok-write_lines.ensures,
    )

pub returns-in_err-write_lines : goal.returns-in_err-write_lines
returns-in_err-write_lines g c =
    let history = c.args.history.now in
    let updates = history.updates.items in
    let questions = history.questions.items in
    broken_text _ c.from_residual.result c.from_residual.ensures.1
    (is_replayed updates questions history.plan.batch [] history.plan.readers (sym c.requires.alone) (All-nil _))
    (subst (BreaksOff g.S.Sink c.args.out.now c.write_lines.new.out)
    (same_lines [] c.deref.ensures.value c.deref-2.ensures.value) c.in_err-write_lines.ensures)
