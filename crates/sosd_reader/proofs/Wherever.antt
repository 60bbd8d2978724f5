-- What a reader answers wherever no fault was counted follows from what each of its answers says.
use Rattle.std.proofs.Common.{◌≡◌, ◌⊎◌, ℕ, List, refl, Option, Some, None, Result, Ok, Err, inl, inr}
use Rattle.std.specs.Option.{IfSome}
use Rattle.edge.specs.Risen.{StaysQuiet}
use Rattle.sosd_reader.specs.declared.fault.KeyFault.{KeyFault}
use Rattle.sosd_reader.specs.declared.fault.KeyFault.TheVariants.{ReadFault, Unsorted, Wide, NoMemory}
use Rattle.edge.specs.Readers.{HasCauseOf, IsOfBytes}
use Rattle.sosd_reader.specs.NumberFiles.{Kind}
use Rattle.sosd_reader.specs.NumberFiles.Kind.{of_keys, of_points}
use Rattle.sosd_reader.specs.FileFaults.{ReadsAsFile}
use Rattle.sosd_reader.specs.Reading.{FailsAsFile, origin_of}
use Rattle.sosd_reader.proofs.Unique.{one-file-reading}

-- the bytes have one reading, so numbers that were read are it
pub read-wherever : (kind : Kind) (told : Option (List ℕ)) (list : List ℕ) (before after : ℕ) →
    IfSome told (λ bytes. ReadsAsFile kind bytes (Ok list)) →
    IfSome told (λ bytes. (reading : Result (List ℕ) KeyFault) →
    ReadsAsFile kind bytes reading → StaysQuiet before after → reading ≡ Ok list)
read-wherever kind None list before after _ = tt
read-wherever kind (Some x) list before after read =
    λ reading reads _. one-file-reading kind x reading (Ok list) reads read

-- and so is a fault, unless memory was missing
pub fault-wherever : (kind : Kind) (told : Option (List ℕ)) (fault : KeyFault) (before after : ℕ) →
    IsOfBytes (origin_of kind fault) (λ bytes. FailsAsFile kind bytes fault) told →
    HasCauseOf (origin_of kind fault) before after →
    IfSome told (λ bytes. (reading : Result (List ℕ) KeyFault) →
    ReadsAsFile kind bytes reading → StaysQuiet before after → (fault ≡ NoMemory) ⊎ (reading ≡ Err fault))
fault-wherever kind None fault before after _ _ = tt
fault-wherever kind (Some x) ReadFault before after fails cause = λ reading reads calm. absurd (calm cause.1)
fault-wherever kind (Some x) NoMemory before after fails cause = λ reading reads calm. inl refl
fault-wherever (of_keys w) (Some x) (Wide at value) before after fails cause = absurd fails
fault-wherever (of_points d) (Some x) (Unsorted at last key) before after fails cause = absurd fails
fault-wherever (of_keys w) (Some x) fault before after fails cause =
    λ reading reads calm. inr (one-file-reading (of_keys w) x reading (Err fault) reads fails)
fault-wherever (of_points d) (Some x) fault before after fails cause =
    λ reading reads calm. inr (one-file-reading (of_points d) x reading (Err fault) reads fails)
