-- Pairs as C reads and writes them.
use Rattle.std.specs.Prelude.{◌≡◌, ℕ, List, map, Option, Some, None, Result, Ok, Err}
use Rattle.log_levels.specs.declared.fault.MapFault.{MapFault}
use Rattle.kuldebiq.specs.declared.answer.Answer.{Answer}
use Rattle.kuldebiq.specs.declared.answer.TheConstants.{ABSENT}
use Rattle.kuldebiq.specs.declared.map_calls.Pair.{Pair}
use Rattle.kuldebiq.specs.Answers.{gives, refuses}
use Rattle.kuldebiq.specs.Changes.{fault_as}

-- a key and a value as a pair of C
abbrev pub pair_of : ℕ × ℕ → Pair
pair_of pair = record { key = pair.0; value = pair.1 }

-- a pair of C as a key and a value
abbrev pub tuple_of : Pair → ℕ × ℕ
tuple_of pair = (pair.key, pair.value)

-- pairs of C as keys and values
abbrev pub tuples_of : List Pair → List (ℕ × ℕ)
tuples_of pairs = map tuple_of pairs

-- the pair that was found is written; where there is none the answer says so
abbrev pub IsFound : Option (ℕ × ℕ) → Pair → Answer → Type 0
IsFound None pair answer = answer ≡ refuses ABSENT 0
IsFound (Some found) pair answer = (answer ≡ gives 0) × (pair.key ≡ found.0) × (pair.value ≡ found.1)

-- the same of a pair that was taken out; where it wasn't the answer says why
abbrev pub IsTaken : Result (Option (ℕ × ℕ)) MapFault → Pair → Answer → Type 0
IsTaken (Ok found) pair answer = IsFound found pair answer
IsTaken (Err fault) pair answer = answer ≡ fault_as fault
