-- One call of `put` of a sink in memory.
use Rattle.std.specs.Prelude.{◌≡◌, ◌⊎◌, ℕ, ◌<◌, ◌+◌, min, List, ◌++◌, length, take, Result, IfOk, OnErr}
use Rattle.edge.specs.declared.failed.Failed.{Failed}
use Rattle.edge.specs.Device.{Device, next_call, IsToFail}
use Rattle.edge.specs.Calls.{FailsWhere}

-- a sink in memory: its device, its room, and the bytes written
pub record Memory : Type 0 where
  pub device : Device
  pub room : ℕ
  pub bytes : List ℕ

-- what one call takes of a piece
abbrev pub portion : Memory → List ℕ → ℕ
portion m piece = min (length piece) m.device.most

-- the call fails: it is one of those that are to fail, or what it takes would pass the room
abbrev pub HasToFail : Memory → List ℕ → Type 0
HasToFail m piece = (0 < length piece) × (IsToFail (next_call m.device) ⊎ (m.room < length m.bytes + portion m piece))

-- one call: it fails exactly where it has to, and else adds its portion of the piece
pub record PutsInMemory (old : Memory) (piece : List ℕ) (result : Result ℕ Failed) (new : Memory) : Type 0 where
  pub call : FailsWhere (HasToFail old piece) old.device result new.device
  pub room : new.room ≡ old.room
  pub taken : IfOk result (λ n. (n ≡ portion old piece) × (new.bytes ≡ old.bytes ++ take n piece))
  pub failed : OnErr result (new.bytes ≡ old.bytes)
