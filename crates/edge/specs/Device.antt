-- A device in memory, whose faults the caller chose.
use Rattle.std.specs.Prelude.{ℕ, ◌+◌, min, List, Contains}

-- which calls are to fail, how many bytes one call moves at most, and how many calls there were
pub record Device : Type 0 where
  pub failing : List ℕ
  pub most : ℕ
  pub calls : ℕ

-- a device of which no call was made
abbrev pub fresh_device : List ℕ → ℕ → Device
fresh_device failing most = record { failing = failing; most = most; calls = 0 }

-- after one more call; the number of calls stays at its last value
abbrev pub next_call : Device → Device
next_call d = record { failing = d.failing; most = d.most; calls = min (d.calls + 1) 18446744073709551615 }

-- the call that was made last is to fail
abbrev pub IsToFail : Device → Type 0
IsToFail d = Contains d.failing d.calls
