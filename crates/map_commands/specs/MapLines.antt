-- The lines of `replay` and `mix` by what readers saw. No public clause cites it.
use Rattle.std.specs.Prelude.{◌≡◌, ◌+◌, map, ℕ, List, [], ◌∷◌, ◌++◌, length}
use Rattle.log_levels.specs.declared.update.Update.{Update}
use Rattle.map_replay.specs.declared.question.Question.{Question}
use Rattle.map_replay.specs.declared.reading.Reading.{Reading}
use Rattle.map_replay.specs.Readings.{AreAnswers}
use Rattle.map_commands.specs.Mix.{from_line}
use Rattle.map_commands.specs.Replay.{reader_lines, updates_line, closing_lines}

-- the lines of each reader in turn, of which the first has this number
abbrev pub read_lines : List Update → List Question → (reader : ℕ) → List Reading → List (List ℕ)
read_lines updates questions reader [] = []
read_lines updates questions reader (reading ∷ readings) =
    reader_lines updates reader questions reading.sightings.items ++ read_lines updates questions (reader + 1) readings

-- a reader that was answered each question after so many updates, and saw all of them at the end
pub record IsTold (updates : List Update) (questions : List Question) (reading : Reading) : Type 0 where
  pub answers : AreAnswers updates questions reading.sightings.items
  pub last : reading.last ≡ length updates

-- what readers were answered, and what comes behind
abbrev pub told_lines : List Update → List Question → List Reading → List (List ℕ)
told_lines updates questions readings =
    read_lines updates questions 0 readings ++ closing_lines updates questions (length readings)

-- the whole text: how many updates there are, which sender sent each
-- of them, if senders did, and what is told of readers and of the map
abbrev pub all_lines : (numbers : List ℕ) → List Update → List Question → List Reading → List (List ℕ)
all_lines numbers updates questions readings =
    updates_line (length updates) ∷ (map from_line numbers ++ told_lines updates questions readings)
