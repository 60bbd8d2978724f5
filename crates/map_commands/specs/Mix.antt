-- The text of `mix`.
use Rattle.std.specs.Prelude.{◌≡◌, ◌≤◌, ℕ, List, [], ◌∷◌, ◌++◌, length, map, codes, decimal}
use Rattle.std.specs.List.{range_with_len}
use Rattle.log_levels.specs.declared.update.Update.{Update}
use Rattle.map_replay.specs.declared.question.Question.{Question}
use Rattle.map_replay.specs.Mixes.{IsMix}
use Rattle.written.specs.TextLines.{text_line}
use Rattle.written.specs.InTurn.{TellsEach}
use Rattle.map_commands.specs.Replay.{IsReadOf, closing_lines, updates_line}

-- `from S`
abbrev pub from_line : ℕ → List ℕ
from_line number = text_line (codes "from" ∷ decimal number ∷ [])

-- as many updates as there are, or fewer
abbrev pub IsAmong : (count length : ℕ) → Type 0
IsAmong count length = length ≤ count

-- how many updates there are, which sender sent each of them in the order in which
-- they came, what each reader was answered after some of them in that order, and
-- what the map after all of them answers
pub record IsMixedText
    (updates : List Update) (questions : List Question) (readers senders : ℕ) (pieces : List (List ℕ)) : Type 0 where
  pub numbers : List ℕ
  pub mixed : List Update
  pub order : IsMix senders updates numbers mixed
  pub read : List (List ℕ)
  pub each : TellsEach (IsReadOf (IsAmong (length mixed)) mixed questions) (range_with_len 0 readers) read
  pub lines : pieces ≡ updates_line (length updates)
      ∷ (map from_line numbers ++ (read ++ closing_lines mixed questions readers))
