-- What the calls of a shelf in memory do.
use Rattle.std.specs.Prelude.{◌≡◌, ◌⊎◌, ℕ, ◌<◌, min, List, length, None, Result, IfOk, ⊤}
use Rattle.edge.specs.declared.failed.Failed.{Failed}
use Rattle.edge.specs.declared.mem_shelf.MemShelf.{MemShelf}
use Rattle.edge.specs.Device.{Device, next_call, IsToFail}
use Rattle.edge.specs.Files.{contents_of}
use Rattle.edge.specs.Taken.{bytes_left}
use Rattle.edge.specs.Calls.{FailsWhere}

abbrev pub device_of : MemShelf → Device
device_of s = record { failing = s.failing.items; most = s.most; calls = s.calls }

-- the next call is one of those that are to fail
abbrev pub IsNextToFail : MemShelf → Type 0
IsNextToFail s = IsToFail (next_call (device_of s))

-- a file is not taken exactly where the call is to fail or no file has the name
abbrev pub TakesInMemory : MemShelf → List ℕ → Result ⊤ Failed → MemShelf → Type 0
TakesInMemory old name result new =
    FailsWhere (IsNextToFail old ⊎ (contents_of old.files.items name ≡ None)) (device_of old) result (device_of new)

-- a read into a buffer that isn't empty fails exactly where it is to fail,
-- and else gives what is left, as far as the buffer and one call reach
pub record ReadsInMemory (old : MemShelf) (room : ℕ) (result : Result ℕ Failed) (new : MemShelf) : Type 0 where
  pub call : FailsWhere ((0 < room) × IsNextToFail old) (device_of old) result (device_of new)
  pub count : IfOk result (λ n. n ≡ min (min (length (bytes_left old.files.items old.taken)) room) old.most)
