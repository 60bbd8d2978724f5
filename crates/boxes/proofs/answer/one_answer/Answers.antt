use Rattle.std.proofs.Common.{length}
use Rattle.boxes.specs.BoxAnswers.{IsLookedAt}
use Rattle.boxes.proofs.OneCount.{one_count, one_sort}
use Rattle.boxes.proofs.answer.one_answer.Goals as goal

pub returns-clause-codes : goal.returns-clause-codes
returns-clause-codes c = λ d points one two first second. one_sort d points one two first second

pub returns-clause-looked : goal.returns-clause-looked
returns-clause-looked c =
    λ region codes one two first second. one_count (IsLookedAt region codes) (length codes) one two first second
