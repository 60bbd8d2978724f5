-- The one reading of any bytes as a key file of keys of a width in bytes.
use Rattle.std.specs.Prelude.{ℕ, List, Result}
use Rattle.sosd_reader.specs.declared.fault.KeyFault.{KeyFault}
use Rattle.sosd_reader.specs.NumberFiles.Kind.{of_keys}
use Rattle.sosd_reader.specs.FileFaults.{ReadsAsFile, ReadingsOfKindAreOne}

-- the reading of the bytes: the keys whose file they are, or the first fault
abbrev pub ReadsAs : ℕ → List ℕ → Result (List ℕ) KeyFault → Type 0
ReadsAs width bytes reading = ReadsAsFile (of_keys width) bytes reading

-- any bytes have exactly one reading
abbrev pub ReadingsAreOne : ℕ → Type 0
ReadingsAreOne width = ReadingsOfKindAreOne (of_keys width)
