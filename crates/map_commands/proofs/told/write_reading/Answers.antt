use Rattle.std.proofs.Common.{◌<◌, [], ◌∷◌, ◌∙◌, ap, drop, length, arith, List, None}
use Rattle.std.proofs.lemmas.List.{drop_all}
use Rattle.written.proofs.LoopLemmas.{written_none, written_more, written_all, broken_there}
use Rattle.map_replay.specs.declared.question.Question.{Question}
use Rattle.map_replay.specs.declared.question.Question.TheVariants.{Get}
use Rattle.map_replay.specs.declared.question.Answer.TheVariants.{Value}
use Rattle.map_replay.specs.declared.reading.Sighting.{Sighting}
use Rattle.map_commands.specs.Replay.{reader_lines}
use Rattle.map_commands.proofs.MapLineLemmas.{answer_at, answers_count, reading_begins}
use Rattle.written.proofs.WritingLemmas.{broken}
use Rattle.map_commands.proofs.told.write_reading.Goals as goal

abbrev no_sighting : Sighting
no_sighting = record { known = 0; length = 0; answer = Value None }

pub loop-i-init : goal.loop-i-init
loop-i-init g c = written_none

pub bounds-sightings-i : goal.bounds-sightings-i
bounds-sightings-i g c =
    omega (arith, answers_count c.args.updates.now c.args.questions.now c.args.sightings.now c.requires)

pub loop-i-preserved : goal.loop-i-preserved
loop-i-preserved g c =
    let updates = c.args.updates.now in
    let questions = c.args.questions.now in
    let sightings = c.args.sightings.now in
    let i = c.loop-i.i in
    let piece = c.as_bytes.result.now in
    let seen : i < length sightings = omega (arith, answers_count updates questions sightings c.requires) in
    written_more c.loop-i.invariant c.in_ok-hand_over.ensures
    (reading_begins updates c.args.reader questions sightings i (Get 0) no_sighting piece (omega arith) seen
    (c.as_bytes.ensures ∙ c.fill_sighting.ensures updates
    (answer_at updates questions sightings i (Get 0) no_sighting (omega arith) c.requires)))

pub returns-in_err-hand_over : goal.returns-in_err-hand_over
returns-in_err-hand_over g c =
    let updates = c.args.updates.now in
    let questions = c.args.questions.now in
    let sightings = c.args.sightings.now in
    let i = c.loop-i.i in
    let piece = c.as_bytes.result.now in
    let seen : i < length sightings = omega (arith, answers_count updates questions sightings c.requires) in
    broken _ c.from_residual.result c.from_residual.ensures.1
    (broken_there _ c.loop-i.invariant c.in_err-hand_over.ensures
    (reading_begins updates c.args.reader questions sightings i (Get 0) no_sighting piece (omega arith) seen
    (c.as_bytes.ensures ∙ c.fill_sighting.ensures updates
    (answer_at updates questions sightings i (Get 0) no_sighting (omega arith) c.requires))))

pub returns : goal.returns
returns g c =
    let none = ap
    (λ (q : List Question). reader_lines c.args.updates.now c.args.reader q (drop c.loop-i.i c.args.sightings.now))
    (drop_all c.loop-i.i c.args.questions.now (omega arith)) in
    written_all c.loop-i.invariant none
