-- How the writing of pieces ended.
--
-- Main results: pieces behind others end as they do (`behind`);
-- by what `?` makes of a failed call, pieces broke off
-- (`broken`), and so did a text (`broken_text`).
use Rattle.std.proofs.Common.{◌≡◌, ◌⊎◌, inl, inr, ℕ, List, [], ◌∷◌, ◌++◌, Result, Ok, Err, subst}
use Rattle.std.specs.Prelude.{IsErrAnd, ⊤}
use Rattle.edge.specs.declared.failed.Failed.{Failed}
use Rattle.edge.specs.declared.sink.Sink.{Ghosts}
use Rattle.written.specs.Writing.{Writes, BreaksOff, WritesPieces, WritesText, WritesUntilFault}
use Rattle.written.specs.declared.unfinished.Unfinished.{Unfinished}
use Rattle.written.specs.declared.unfinished.Unfinished.TheVariants.{NoMemory, WriteFault}
use Rattle.written.proofs.AppendLemmas.{Writes-append, BreaksOff-append}

module _ {S : Type 0} {sink : Ghosts S} {s t : S} where
  pub broken : {pieces : List (List ℕ)} (Is : Failed → Type 0) (r : Result ⊤ Failed) → IsErrAnd r Is →
      BreaksOff sink s t pieces → WritesPieces sink s r t pieces
  broken Is (Ok x) is broke = absurd is
  broken Is (Err e) is broke = broke

  pub broken_text : {pieces : List (List ℕ)} (IsText : List (List ℕ) → Type 0) (r : Result ⊤ Unfinished) →
      IsErrAnd r (λ unfinished. unfinished ≡ WriteFault) →
      IsText pieces → BreaksOff sink s t pieces → WritesText sink s r t IsText
  broken_text IsText (Ok x) is text broke = absurd is
  broken_text {pieces} IsText (Err WriteFault) is text broke = (pieces, text, broke)
  broken_text IsText (Err NoMemory) is text broke = cc

  -- the piece is this one
  pub head_written : {piece head : List ℕ} →
      piece ≡ head → Writes sink s t (piece ∷ []) → Writes sink s t (head ∷ [])
  head_written is = subst (λ (p : List ℕ). Writes sink s t (p ∷ [])) is

  pub head_broken : {piece head : List ℕ} →
      piece ≡ head → BreaksOff sink s t (piece ∷ []) → BreaksOff sink s t (head ∷ [])
  head_broken is = subst (λ (p : List ℕ). BreaksOff sink s t (p ∷ [])) is

  -- however it ended
  pub until_fault : {pieces : List (List ℕ)} (r : Result ⊤ Failed) →
      WritesPieces sink s r t pieces → WritesUntilFault sink s t pieces
  until_fault (Ok x) written = inl written
  until_fault (Err e) broke = inr broke

  pub behind : (u : S) {first : List (List ℕ)} (later : List (List ℕ)) (r : Result ⊤ Failed) →
      Writes sink s t first → WritesPieces sink t r u later → WritesPieces sink s r u (first ++ later)
  behind u later (Ok x) one two = Writes-append one two
  behind u later (Err e) one two = BreaksOff-append one two

  -- where the later ones are these
  pub behind_as : (u : S) {first later those : List (List ℕ)} (r : Result ⊤ Failed) →
      Writes sink s t first → later ≡ those → WritesPieces sink t r u later → WritesPieces sink s r u (first ++ those)
  behind_as u {first} r one is two =
      subst (λ (p : List (List ℕ)). WritesPieces sink s r u (first ++ p)) is (behind u _ r one two)
