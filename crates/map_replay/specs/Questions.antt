-- What a map answers to a question.
use Rattle.std.specs.Prelude.{ℕ, List}
use Rattle.log_levels.specs.Maps.{value_at, next_from, count_between}
use Rattle.map_replay.specs.declared.question.Question.{Question}
use Rattle.map_replay.specs.declared.question.Question.TheVariants.{Get, Next, Count}
use Rattle.map_replay.specs.declared.question.Answer.{Answer}
use Rattle.map_replay.specs.declared.question.Answer.TheVariants.{Value, Pair, Number}

abbrev pub answer_of : List (ℕ × ℕ) → Question → Answer
answer_of pairs (Get key) = Value (value_at pairs key)
answer_of pairs (Next from) = Pair (next_from pairs from)
answer_of pairs (Count low high) = Number (count_between pairs low high)
