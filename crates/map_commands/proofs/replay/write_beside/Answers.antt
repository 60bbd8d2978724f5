use Rattle.std.proofs.Common.{[], ◌≡◌, ◌∙◌, ℕ, List, length, sym, ap, subst}
use Rattle.std.specs.Prelude.{All}
use Rattle.std.proofs.lemmas.List.Elements.{All-weaker}
use Rattle.written.specs.Writing.{Writes, BreaksOff}
use Rattle.log_levels.specs.declared.update.Update.{Update}
use Rattle.map_replay.specs.declared.question.Question.{Question}
use Rattle.map_replay.specs.declared.reading.Reading.{Reading}
use Rattle.map_replay.specs.Readings.{IsWholeReading}
use Rattle.written.proofs.WritingLemmas.{broken_text}
use Rattle.map_commands.specs.MapLines.{IsTold, all_lines}
use Rattle.map_commands.proofs.MapLineLemmas.{is_replayed, same_lines, whole_told}
use Rattle.map_commands.proofs.replay.write_beside.Goals as goal

-- readings of the same updates and questions
moved : (batch : ℕ) {rs ss : List Reading} {xs ys : List Update} {ps qs : List Question} → xs ≡ ys → ps ≡ qs → rs ≡ ss →
    All (IsWholeReading xs batch ps) ss → All (IsWholeReading ys batch qs) rs
moved batch {rs} {ss} {xs} {ys} {ps} {qs} updates questions readings each =
    subst (All (IsWholeReading ys batch qs)) (sym readings)
    (subst (λ (u : List Update). All (IsWholeReading u batch qs) ss) updates
    (subst (λ (q : List Question). All (IsWholeReading xs batch q) ss) questions each))

pub write_lines-done-requires-clause-each : goal.write_lines-done-requires-clause-each
write_lines-done-requires-clause-each g c =
    let updates = c.deref.ensures.value ∙ sym c.deref-3.ensures.value in
    let questions = c.deref-2.ensures.value ∙ sym c.deref-4.ensures.value in
    All-weaker (IsWholeReading _ c.args.history.now.plan.batch _)
    (IsTold _ _) (λ reading whole. whole_told _ _ reading whole) c.readings.result.now
    (moved _ updates questions c.readings.ensures c.in_ok-left.ensures.each)

pub returns : goal.returns
returns g c =
    let history = c.args.history.now in
    let readings = c.readings.result.now in
    let each = moved _ c.deref.ensures.value c.deref-2.ensures.value c.readings.ensures c.in_ok-left.ensures.each in
    let count = ap (λ (r : List Reading). length r) c.readings.ensures ∙ c.in_ok-left.ensures.count in (
      all_lines [] history.updates.items history.questions.items readings,
      is_replayed
          history.updates.items history.questions.items history.plan.batch readings history.plan.readers count each,
      subst (Writes g.S.Sink c.args.out.now c.write_lines-done.new.out)
          (same_lines readings c.deref-3.ensures.value c.deref-4.ensures.value) c.in_ok-done.ensures,
    )

pub returns-in_err-done : goal.returns-in_err-done
returns-in_err-done g c =
    let history = c.args.history.now in
    let readings = c.readings.result.now in
    let each = moved _ c.deref.ensures.value c.deref-2.ensures.value c.readings.ensures c.in_ok-left.ensures.each in
    let count = ap (λ (r : List Reading). length r) c.readings.ensures ∙ c.in_ok-left.ensures.count in
    broken_text _ c.from_residual-in_err-done.result c.from_residual-in_err-done.ensures.1
    (is_replayed
    history.updates.items history.questions.items history.plan.batch readings history.plan.readers count each)
    (subst (BreaksOff g.S.Sink c.args.out.now c.write_lines-done.new.out)
    (same_lines readings c.deref-3.ensures.value c.deref-4.ensures.value) c.in_err-done.ensures)
