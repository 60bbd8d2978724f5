-- What a sink gains.
use Rattle.std.specs.Prelude.{◌≡◌, ◌⊎◌, ℕ, List, ◌++◌, true, false, Option, Some, IfSome, Result, Ok, Err, ⊤}
use Rattle.std.specs.List.{concat}
use Rattle.edge.specs.Risen.{HasRisen}
use Rattle.edge.specs.declared.failed.Failed.{Failed}
use Rattle.edge.specs.declared.sink.Sink.{Ghosts}
use Rattle.written.specs.declared.unfinished.Unfinished.{Unfinished}
use Rattle.written.specs.declared.unfinished.Unfinished.TheVariants.{NoMemory, WriteFault}
use Rattle.written.specs.Handing.{HandsPieces}

-- where the sink tells its bytes, these were added
abbrev pub Gains : Option (List ℕ) → Option (List ℕ) → List ℕ → Type 0
Gains old new bytes = IfSome old (λ before. new ≡ Some (before ++ bytes))

-- where the sink tells its bytes, a front part of these was added
abbrev pub GainsFront : Option (List ℕ) → Option (List ℕ) → List ℕ → Type 0
GainsFront old new bytes =
    IfSome old (λ before. (front rest : List ℕ) × (bytes ≡ front ++ rest) × (new ≡ Some (before ++ front)))

-- the pieces were written whole, each handed over as one, and no fault was counted
pub record Writes {S : Type 0} (sink : Ghosts S) (old new : S) (pieces : List (List ℕ)) : Type 0 where
  pub handed : HandsPieces sink old pieces true new
  pub gained : Gains (sink.written old) (sink.written new) (concat pieces)
  pub no_fault : sink.faults new ≡ sink.faults old

-- a call failed, and the bytes taken before it are a front part of the pieces
pub record BreaksOff {S : Type 0} (sink : Ghosts S) (old new : S) (pieces : List (List ℕ)) : Type 0 where
  pub handed : HandsPieces sink old pieces false new
  pub gained : GainsFront (sink.written old) (sink.written new) (concat pieces)
  pub fault : HasRisen (sink.faults old) (sink.faults new)

-- the pieces were written, whole or up to where the sink failed
abbrev pub WritesUntilFault : {S : Type 0} → Ghosts S → S → S → List (List ℕ) → Type 0
WritesUntilFault sink old new pieces = Writes sink old new pieces ⊎ BreaksOff sink old new pieces

-- so it ended: the pieces were written whole, or broke off where a call failed
abbrev pub WritesPieces : {S : Type 0} → Ghosts S → S → Result ⊤ Failed → S → List (List ℕ) → Type 0
WritesPieces sink old (Ok _) new pieces = Writes sink old new pieces
WritesPieces sink old (Err _) new pieces = BreaksOff sink old new pieces

-- the same of some pieces of which this is true
abbrev pub WritesTold : {S : Type 0} → Ghosts S → S → Result ⊤ Failed → S → (List (List ℕ) → Type 0) → Type 0
WritesTold sink old result new Tells = (pieces : List (List ℕ)) × Tells pieces × WritesPieces sink old result new pieces

-- pieces of which this is true were written whole, or broke off where
-- the sink failed; or memory ran out, and the sink is as it was
abbrev pub WritesText : {S : Type 0} → Ghosts S → S → Result ⊤ Unfinished → S → (List (List ℕ) → Type 0) → Type 0
WritesText sink old (Ok _) new IsText = (pieces : List (List ℕ)) × IsText pieces × Writes sink old new pieces
WritesText sink old (Err WriteFault) new IsText =
    (pieces : List (List ℕ)) × IsText pieces × BreaksOff sink old new pieces
WritesText sink old (Err NoMemory) new IsText = new ≡ old
