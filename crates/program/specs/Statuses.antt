-- The numbers that the program ends with.
use Rattle.std.specs.Prelude.{ℕ}
use Rattle.program.specs.declared.status.Status.{Status}
use Rattle.program.specs.declared.status.Status.TheVariants.{Done, NoMemory, Usage, ReadFault, WriteFault}
use Rattle.program.specs.declared.status.Status.TheVariants.{BadKeys, BadScript, Full, BadIndex}

abbrev pub number_of : Status → ℕ
number_of Done = 0
number_of NoMemory = 1
number_of Usage = 2
number_of ReadFault = 3
number_of WriteFault = 4
number_of BadKeys = 5
number_of BadScript = 6
number_of Full = 7
number_of BadIndex = 8
