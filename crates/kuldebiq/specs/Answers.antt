-- How a call answers.
use Rattle.std.specs.Prelude.{◌≡◌, ℕ, Option, Some, None}
use Rattle.kuldebiq.specs.declared.answer.Answer.{Answer}
use Rattle.kuldebiq.specs.declared.answer.TheConstants.{DONE, ABSENT}

-- the call was done, and this is its number
abbrev pub gives : ℕ → Answer
gives number = record { status = DONE; number = number }

-- the call was refused, and this number tells why
abbrev pub refuses : ℕ → ℕ → Answer
refuses status number = record { status = status; number = number }

-- the call was done
abbrev pub IsDone : Answer → Type 0
IsDone answer = answer.status ≡ DONE

-- the value that was found, or that there is none
abbrev pub found : Option ℕ → Answer
found None = refuses ABSENT 0
found (Some value) = gives value
