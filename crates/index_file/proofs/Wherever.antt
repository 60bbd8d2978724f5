-- An answer is the reading of the bytes, whichever that is.
use Rattle.std.proofs.Common.{◌≡◌, ◌⊎◌, ℕ, List, Option, Some, None, inl, inr, Result, Ok, Err, refl}
use Rattle.std.specs.Option.{IfSome}
use Rattle.edge.specs.Readers.{HasCauseOf, IsOfBytes}
use Rattle.edge.specs.Risen.{StaysQuiet}
use Rattle.index_file.specs.declared.fault.IndexFault.{IndexFault}
use Rattle.index_file.specs.declared.fault.IndexFault.TheVariants.{ReadFault, NoMemory}
use Rattle.index_file.specs.Spelling.{SavedIndex, IsSpelling}
use Rattle.index_file.specs.Stops.{origin_of}
use Rattle.index_file.specs.Faults.{FailsAs, ReadsAs}
use Rattle.index_file.proofs.Readings.{ReadsAs-unique}

pub read-wherever : (told : Option (List ℕ)) (saved : SavedIndex) (before after : ℕ) → IfSome told (IsSpelling saved) →
    IfSome told (λ bytes. (reading : Result SavedIndex IndexFault) →
    ReadsAs bytes reading → StaysQuiet before after → reading ≡ Ok saved)
read-wherever None saved before after spelled = tt
read-wherever (Some bytes) saved before after spelled =
    λ reading reads quiet. ReadsAs-unique bytes reading (Ok saved) reads spelled

pub fault-wherever : (told : Option (List ℕ)) (fault : IndexFault) (before after : ℕ) →
    IsOfBytes (origin_of fault) (λ bytes. FailsAs bytes fault) told →
    HasCauseOf (origin_of fault) before after →
    IfSome told (λ bytes. (reading : Result SavedIndex IndexFault) →
    ReadsAs bytes reading → StaysQuiet before after → (fault ≡ NoMemory) ⊎ (reading ≡ Err fault))
fault-wherever None fault before after fails cause = tt
fault-wherever (Some bytes) ReadFault before after fails cause = λ reading reads quiet. absurd (quiet cause.1)
fault-wherever (Some bytes) NoMemory before after fails cause = λ reading reads quiet. inl refl
fault-wherever (Some bytes) fault before after fails cause =
    λ reading reads quiet. inr (ReadsAs-unique bytes reading (Err fault) reads fails)
