use Rattle.std.proofs.Common.{◌≡◌, ◌∙◌, ℕ, List, length, sym, ap, subst}
use Rattle.std.specs.Prelude.{All}
use Rattle.std.proofs.lemmas.List.Elements.{All-weaker}
use Rattle.written.specs.Writing.{Writes, BreaksOff}
use Rattle.log_levels.specs.declared.update.Update.{Update}
use Rattle.log_levels.specs.Maps.{map_after}
use Rattle.map_replay.specs.declared.question.Question.{Question}
use Rattle.map_replay.specs.declared.reading.Reading.{Reading}
use Rattle.map_replay.specs.Mixes.{IsMix}
use Rattle.map_replay.specs.Readings.{AreCut, IsWholeMixedReading}
use Rattle.written.proofs.WritingLemmas.{broken_text}
use Rattle.map_commands.specs.MapLines.{IsTold, all_lines}
use Rattle.map_commands.proofs.MapLineLemmas.{is_mixed_text, whole_told}
use Rattle.map_commands.proofs.mix.write_mix.Goals as goal

-- an order of the same updates, as it is handed over
ordered : {senders : ℕ} {xs ys mixed shown : List Update} {numbers told : List ℕ} →
    xs ≡ ys → told ≡ numbers → shown ≡ mixed → IsMix senders xs numbers mixed → IsMix senders ys told shown
ordered {senders} {xs} {ys} {mixed} {shown} {numbers} {told} updates numbers_are mixed_are order =
    subst (λ (u : List Update). IsMix senders u told shown) updates
    (subst (λ (n : List ℕ). IsMix senders xs n shown)
    (sym numbers_are) (subst (λ (m : List Update). IsMix senders xs numbers m) (sym mixed_are) order))

-- readings of the same updates and questions
moved : {batches : List (List Update)} {rs ss : List Reading} {xs ys : List Update} {ps qs : List Question} →
    xs ≡ ys → ps ≡ qs → rs ≡ ss →
    All (IsWholeMixedReading batches xs ps) ss → All (IsWholeMixedReading batches ys qs) rs
moved {batches} {rs} {ss} {xs} {ys} {ps} {qs} updates questions readings each =
    subst (All (IsWholeMixedReading batches ys qs)) (sym readings)
    (subst (λ (u : List Update). All (IsWholeMixedReading batches u qs) ss) updates
    (subst (λ (q : List Question). All (IsWholeMixedReading batches xs q) ss) questions each))

-- batches of the same updates
cut_of : {most : ℕ} {xs ys : List Update} {batches : List (List Update)} →
    ys ≡ xs → AreCut most xs batches → AreCut most ys batches
cut_of {most} {xs} {ys} {batches} same cut = subst (λ (u : List Update). AreCut most u batches) (sym same) cut

pub write_lines-done-requires-clause-answers : goal.write_lines-done-requires-clause-answers
write_lines-done-requires-clause-answers g c = ap map_after (c.mixed-updates.ensures ∙ sym c.in_ok-left.ensures.whole)

pub write_lines-done-requires-clause-each : goal.write_lines-done-requires-clause-each
write_lines-done-requires-clause-each g c =
    let mixed = c.mixed-updates.result.now in
    let questions = c.deref-3.result.now in
    All-weaker (IsWholeMixedReading c.in_ok-left.left.batches mixed questions)
    (IsTold mixed questions) (λ reading whole. whole_told mixed questions reading whole) c.readings.result.now
    (moved (sym c.mixed-updates.ensures)
    (c.deref-2.ensures.value ∙ sym c.deref-3.ensures.value) c.readings.ensures c.in_ok-left.ensures.each)

pub returns : goal.returns
returns g c =
    let history = c.args.mixing.history in
    let numbers = c.numbers-numbers.result.now in
    let mixed = c.mixed-updates.result.now in
    let readings = c.readings.result.now in
    let each =
    moved (sym c.mixed-updates.ensures) c.deref-2.ensures.value c.readings.ensures c.in_ok-left.ensures.each in
    let left = c.in_ok-left.left in
    let cut = cut_of c.mixed-updates.ensures c.in_ok-left.ensures.batches in
    let count = ap (λ (r : List Reading). length r) c.readings.ensures ∙ c.in_ok-left.ensures.count in
    let order =
    ordered c.deref.ensures.value c.numbers-numbers.ensures c.mixed-updates.ensures c.in_ok-left.ensures.mixed in (
      all_lines numbers mixed history.questions.items readings,
      is_mixed_text history.updates.items history.questions.items c.args.mixing.senders.count
          numbers mixed readings history.plan.readers left.batches history.plan.batch cut order count each,
      subst (λ (q : List Question).
          Writes g.S.Sink c.args.out.now c.write_lines-done.new.out (all_lines numbers mixed q readings))
          c.deref-3.ensures.value c.in_ok-done.ensures,
    )

pub returns-in_err-done : goal.returns-in_err-done
returns-in_err-done g c =
    let history = c.args.mixing.history in
    let numbers = c.numbers-numbers.result.now in
    let mixed = c.mixed-updates.result.now in
    let readings = c.readings.result.now in
    let each =
    moved (sym c.mixed-updates.ensures) c.deref-2.ensures.value c.readings.ensures c.in_ok-left.ensures.each in
    let left = c.in_ok-left.left in
    let cut = cut_of c.mixed-updates.ensures c.in_ok-left.ensures.batches in
    let count = ap (λ (r : List Reading). length r) c.readings.ensures ∙ c.in_ok-left.ensures.count in
    let order =
    ordered c.deref.ensures.value c.numbers-numbers.ensures c.mixed-updates.ensures c.in_ok-left.ensures.mixed in
    broken_text _ c.from_residual-in_err-done.result c.from_residual-in_err-done.ensures.1
    (is_mixed_text history.updates.items history.questions.items c.args.mixing.senders.count
    numbers mixed readings history.plan.readers left.batches history.plan.batch cut order count each)
    (subst (λ (q : List Question).
    BreaksOff g.S.Sink c.args.out.now c.write_lines-done.new.out (all_lines numbers mixed q readings))
    c.deref-3.ensures.value c.in_err-done.ensures)
