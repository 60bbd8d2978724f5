-- Point files: a count, and then the coordinates of that many points, and the one reading of any bytes as one.
use Rattle.std.specs.Prelude.{ℕ, List, Result}
use Rattle.sosd_reader.specs.declared.fault.KeyFault.{KeyFault}
use Rattle.sosd_reader.specs.NumberFiles.Kind.{of_points}
use Rattle.sosd_reader.specs.FileFaults.{ReadsAsFile, ReadingsOfKindAreOne}

-- the reading of the bytes: the coordinates whose file they are, or the first fault
abbrev pub ReadsAsPoints : ℕ → List ℕ → Result (List ℕ) KeyFault → Type 0
ReadsAsPoints d bytes reading = ReadsAsFile (of_points d) bytes reading

-- any bytes have exactly one reading
abbrev pub PointReadingsAreOne : ℕ → Type 0
PointReadingsAreOne d = ReadingsOfKindAreOne (of_points d)
