-- A piece of which a front part was handed over.
--
-- While a piece is handed over, whatever ends the handing over
-- of what is left of it ends that of the whole (`goes_on`), and
-- what was gained is the whole less what is left (`gained`).
use Rattle.std.proofs.Common.{◌≡◌, ◌≢◌, ℕ, List, [], ◌∷◌, ◌++◌, drop, Bool, true}
use Rattle.std.proofs.Common.{false, Ok, Err, refl, sym, ◌∙◌, ap, subst, append_assoc}
use Rattle.std.proofs.lemmas.List.{append-nil}
use Rattle.edge.specs.declared.failed.Failed.{Failed}
use Rattle.edge.specs.declared.sink.Sink.{Ghosts}
use Rattle.edge.specs.Risen.{HasRisen}
use Rattle.written.specs.Handing.{HandsPiece}
use Rattle.written.specs.Handing.HandsPiece.{taken, failed, again}
use Rattle.written.specs.Handing.HandsPieces.{finished, stops, next}
use Rattle.written.specs.Writing.{Gains, GainsFront, Writes, BreaksOff}
use Rattle.written.proofs.Gaining.{Gains-nil, Gains-append, GainsFront-append, front_of_none}

-- of the piece what is left, the sink as it was and as it is
pub record IsHandedTo {S : Type 0} (sink : Ghosts S) (start now : S) (piece rest : List ℕ) : Type 0 where
  pub goes_on : (ending : Bool) (u : S) → HandsPiece sink now rest ending u → HandsPiece sink start piece ending u
  pub front : List ℕ
  pub split : piece ≡ front ++ rest
  pub gained : Gains (sink.written start) (sink.written now) front
  pub no_fault : sink.faults now ≡ sink.faults start

module _ {S : Type 0} (sink : Ghosts S) where
  pub handed_none : (s : S) (piece : List ℕ) → IsHandedTo sink s s piece piece
  handed_none s piece =
      record {
        goes_on = λ ending u h. h;
        front = [];
        split = refl;
        gained = Gains-nil (sink.written s);
        no_fault = refl;
      }

  -- n bytes more, which leave this
  pub handed_more : (start now new : S) (piece rest left more : List ℕ) (n : ℕ) →
      rest ≢ [] → left ≡ drop n rest → rest ≡ more ++ left →
      sink.puts now rest (Ok n) new →
      Gains (sink.written now) (sink.written new) more → sink.faults new ≡ sink.faults now →
      IsHandedTo sink start now piece rest → IsHandedTo sink start new piece left
  handed_more start now new piece rest left more n some is cut put gains same so_far = record {
    goes_on = λ ending u later. so_far.goes_on ending u
        (again now new u rest n ending some put (subst (λ (r : List ℕ). HandsPiece sink new r ending u) is later));
    front = so_far.front ++ more;
    split = so_far.split ∙ ap (λ (r : List ℕ). so_far.front ++ r) cut ∙ sym (append_assoc so_far.front more left);
    gained = Gains-append _ _ _ so_far.front more so_far.gained gains;
    no_fault = same ∙ so_far.no_fault;
  }

  one_piece : (start now : S) (piece : List ℕ) (rest : List ℕ) →
      rest ≡ [] → IsHandedTo sink start now piece rest → HandsPiece sink start piece true now
  one_piece start now piece rest none so_far =
      so_far.goes_on true now (subst (λ (r : List ℕ). HandsPiece sink now r true now) (sym none) (taken now))

  -- nothing is left
  pub handed_all : (start now : S) (piece rest : List ℕ) →
      rest ≡ [] → IsHandedTo sink start now piece rest → Writes sink start now (piece ∷ [])
  handed_all start now piece rest none so_far = record {
    handed = next start now now piece [] true (one_piece start now piece rest none so_far) (finished now);
    gained = subst (λ (bytes : List ℕ). Gains (sink.written start) (sink.written now) bytes)
        (sym (append-nil so_far.front) ∙ ap (λ (r : List ℕ). so_far.front ++ r) (sym none)
        ∙ sym so_far.split ∙ sym (append-nil piece)) so_far.gained;
    no_fault = so_far.no_fault;
  }

  -- a call failed, and took nothing
  pub handed_part : (start now new : S) (piece rest : List ℕ) (fault : Failed) →
      rest ≢ [] → sink.puts now rest (Err fault) new →
      sink.written new ≡ sink.written now → HasRisen (sink.faults now) (sink.faults new) →
      IsHandedTo sink start now piece rest → BreaksOff sink start new (piece ∷ [])
  handed_part start now new piece rest fault some put same rose so_far = record {
    handed = stops start new piece [] (so_far.goes_on false new (failed now new rest fault some put));
    gained = subst (λ (bytes : List ℕ). GainsFront (sink.written start) (sink.written new) bytes)
        (sym so_far.split ∙ sym (append-nil piece))
        (GainsFront-append _ _ _ so_far.front rest so_far.gained (front_of_none _ _ rest same));
    fault = subst (λ (n : ℕ). HasRisen n (sink.faults new)) so_far.no_fault rose;
  }
