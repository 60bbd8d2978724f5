-- Refusals: their statuses, and the one text line that each writes.
use Rattle.std.specs.Prelude.{ℕ, List, [], ◌∷◌, Option, Some, None, codes, decimal}
use Rattle.sosd_reader.specs.declared.fault.KeyFault.{KeyFault}
use Rattle.sosd_reader.specs.declared.fault.KeyFault.TheVariants as reader
use Rattle.index_file.specs.declared.fault.IndexFault.{IndexFault}
use Rattle.index_file.specs.declared.fault.IndexFault.TheVariants as index
use Rattle.index_file.specs.declared.fault.CheckFault.{CheckFault}
use Rattle.index_file.specs.declared.fault.CheckFault.TheVariants as check
use Rattle.pgm_script.specs.declared.fault.ScriptFault.{ScriptFault}
use Rattle.pgm_script.specs.declared.fault.ScriptFault.TheVariants as script
use Rattle.pgm_script.specs.declared.fault.Why.{Why}
use Rattle.pgm_script.specs.declared.fault.Why.TheVariants.{NotUtf8, Word, Number, Missing, Extra}
use Rattle.program.specs.declared.refusal.Refusal.{Refusal}
use Rattle.program.specs.declared.refusal.Refusal.TheVariants.{Usage, ReadFault, TooMany, Short, Unsorted, Trailing}
use Rattle.program.specs.declared.refusal.Refusal.TheVariants.{Wide, TooLong, Script, Full, IndexShort, IndexMagic}
use Rattle.program.specs.declared.refusal.Refusal.TheVariants.{IndexEpsilon, IndexSide, IndexTrailing, IndexWrong}
use Rattle.program.specs.declared.status.Status.{Status}
use Rattle.program.specs.declared.status.Status.TheVariants as ends
use Rattle.written.specs.TextLines.{text_line}

-- the status that a refusal ends with
abbrev pub status_of : Refusal → Status
status_of Usage = ends.Usage
status_of ReadFault = ends.ReadFault
status_of TooLong = ends.BadScript
status_of (Script line why) = ends.BadScript
status_of (Full asked room) = ends.Full
status_of (IndexShort got) = ends.BadIndex
status_of (IndexMagic at) = ends.BadIndex
status_of (IndexEpsilon value) = ends.BadIndex
status_of (IndexSide at byte) = ends.BadIndex
status_of (IndexTrailing byte) = ends.BadIndex
status_of (IndexWrong level) = ends.BadIndex
status_of refusal = ends.BadKeys

-- what is wrong with a line of a script, in a word
abbrev pub why_word : Why → List ℕ
why_word NotUtf8 = codes "utf8"
why_word Word = codes "word"
why_word Number = codes "number"
why_word Missing = codes "missing"
why_word Extra = codes "extra"

-- the one text line that tells a refusal
abbrev pub refusal_line : Refusal → List ℕ
refusal_line Usage = text_line (codes "fault" ∷ codes "usage" ∷ [])
refusal_line ReadFault = text_line (codes "fault" ∷ codes "read" ∷ [])
refusal_line (TooMany count) =
    text_line (codes "fault" ∷ codes "keys" ∷ codes "too" ∷ codes "many" ∷ decimal count ∷ [])
refusal_line (Short got) = text_line (codes "fault" ∷ codes "keys" ∷ codes "short" ∷ decimal got ∷ [])
refusal_line (Unsorted at before key) =
    text_line (codes "fault" ∷ codes "keys" ∷ codes "unsorted" ∷ decimal at ∷ decimal before ∷ decimal key ∷ [])
refusal_line (Trailing byte) = text_line (codes "fault" ∷ codes "keys" ∷ codes "trailing" ∷ decimal byte ∷ [])
refusal_line TooLong = text_line (codes "fault" ∷ codes "script" ∷ codes "too" ∷ codes "long" ∷ [])
refusal_line (Script line why) = text_line (codes "fault" ∷ codes "script" ∷ decimal line ∷ why_word why ∷ [])
refusal_line (Full asked room) = text_line (codes "fault" ∷ codes "full" ∷ decimal asked ∷ decimal room ∷ [])
refusal_line (IndexShort got) = text_line (codes "fault" ∷ codes "index" ∷ codes "short" ∷ decimal got ∷ [])
refusal_line (IndexMagic at) = text_line (codes "fault" ∷ codes "index" ∷ codes "magic" ∷ decimal at ∷ [])
refusal_line (IndexEpsilon value) = text_line (codes "fault" ∷ codes "index" ∷ codes "epsilon" ∷ decimal value ∷ [])
refusal_line (IndexSide at byte) =
    text_line (codes "fault" ∷ codes "index" ∷ codes "side" ∷ decimal at ∷ decimal byte ∷ [])
refusal_line (IndexTrailing byte) = text_line (codes "fault" ∷ codes "index" ∷ codes "trailing" ∷ decimal byte ∷ [])
refusal_line (IndexWrong level) = text_line (codes "fault" ∷ codes "index" ∷ codes "wrong" ∷ decimal level ∷ [])
refusal_line (Wide at value) = text_line (codes "fault" ∷ codes "keys" ∷ codes "wide" ∷ decimal at ∷ decimal value ∷ [])

-- the refusal that tells a fault of a file's bytes; want of memory is no fault of theirs
abbrev pub refusal_of : KeyFault → Option Refusal
refusal_of reader.ReadFault = Some ReadFault
refusal_of (reader.TooMany count) = Some (TooMany count)
refusal_of (reader.Short got) = Some (Short got)
refusal_of (reader.Unsorted at before key) = Some (Unsorted at before key)
refusal_of (reader.Trailing byte) = Some (Trailing byte)
refusal_of (reader.Wide at value) = Some (Wide at value)
refusal_of reader.NoMemory = None

-- the refusal that tells why a script wasn't read
abbrev pub refusal_of_script : ScriptFault → Option Refusal
refusal_of_script script.ReadFault = Some ReadFault
refusal_of_script (script.TooLong got) = Some TooLong
refusal_of_script (script.At line why) = Some (Script line why)
refusal_of_script script.NoMemory = None

-- the refusal that tells a fault of the bytes of a saved index, and that tells why one isn't right
abbrev pub refusal_of_index : IndexFault → Option Refusal
refusal_of_index index.ReadFault = Some ReadFault
refusal_of_index (index.Short got) = Some (IndexShort got)
refusal_of_index (index.Magic at) = Some (IndexMagic at)
refusal_of_index (index.Epsilon value) = Some (IndexEpsilon value)
refusal_of_index (index.Side at byte) = Some (IndexSide at byte)
refusal_of_index (index.Trailing byte) = Some (IndexTrailing byte)
refusal_of_index index.NoMemory = None

abbrev pub refusal_of_check : CheckFault → Option Refusal
refusal_of_check (check.Wrong level) = Some (IndexWrong level)
refusal_of_check check.NoMemory = None
