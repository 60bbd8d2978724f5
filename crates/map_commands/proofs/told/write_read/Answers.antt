use Rattle.std.proofs.Common.{◌≡◌, ◌+◌, ◌<◌, ◌++◌, ◌∙◌, ap, sym, drop, get_or, length, arith, ℕ, List}
use Rattle.std.proofs.lemmas.List.{drop_all}
use Rattle.written.proofs.LoopLemmas.{written_none, written_more, written_all, broken_there}
use Rattle.log_levels.specs.declared.update.Update.{Update}
use Rattle.map_replay.specs.declared.question.Question.{Question}
use Rattle.map_replay.specs.declared.reading.Reading.{Reading}
use Rattle.map_replay.specs.declared.reading.Sighting.{Sighting}
use Rattle.map_commands.specs.Replay.{reader_lines}
use Rattle.map_commands.specs.MapLines.{read_lines}
use Rattle.map_commands.proofs.MapLineLemmas.{read_begins}
use Rattle.written.proofs.WritingLemmas.{broken}
use Rattle.map_commands.proofs.told.write_read.Goals as goal

pub loop-i-init : goal.loop-i-init
loop-i-init g c =
    written_none

-- what is left begins with the lines of this reader, as they were handed over
begins : (updates : List Update) (questions : List Question)
    (readings : List Reading) (i : ℕ) (d : Reading) (sightings : List Sighting) → i < length readings →
    sightings ≡ (get_or readings i d).sightings.items →
    read_lines updates questions i (drop i readings) ≡ reader_lines updates i questions sightings
    ++ read_lines updates questions (i + 1) (drop (i + 1) readings)
begins updates questions readings i d sightings there is =
    read_begins updates questions readings i d there
    ∙ ap (λ (s : List Sighting). reader_lines updates i questions s
    ++ read_lines updates questions (i + 1) (drop (i + 1) readings)) (sym is)

pub loop-i-preserved : goal.loop-i-preserved
loop-i-preserved g c =
    written_more c.loop-i.invariant c.in_ok-write_reading.ensures
    (begins c.args.updates.now c.args.questions.now c.args.readings.now c.loop-i.i _ c.deref.result.now
    (omega arith) c.deref.ensures.value)

pub returns-in_err-write_reading : goal.returns-in_err-write_reading
returns-in_err-write_reading g c =
    broken _ c.from_residual.result c.from_residual.ensures.1
    (broken_there _ c.loop-i.invariant c.in_err-write_reading.ensures
    (begins c.args.updates.now c.args.questions.now c.args.readings.now c.loop-i.i _ c.deref.result.now
    (omega arith) c.deref.ensures.value))

pub returns : goal.returns
returns g c =
    written_all c.loop-i.invariant
    (ap (read_lines c.args.updates.now c.args.questions.now c.loop-i.i)
    (drop_all c.loop-i.i c.args.readings.now (omega arith)))
