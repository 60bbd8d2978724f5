-- A text after a text.
--
-- Main results: pieces written after others are written together
-- with them (`Writes-append`); pieces that break off after
-- others were written break off with them (`BreaksOff-append`);
-- and pieces that broke off did so whatever had followed (`BreaksOff-more`).
use Rattle.std.proofs.Common.{ℕ, List, [], ◌++◌, Bool, true, false, refl, sym, ◌∙◌, subst}
use Rattle.std.proofs.lemmas.List.Folds.{concat-append}
use Rattle.std.specs.List.{concat}
use Rattle.edge.specs.declared.sink.Sink.{Ghosts}
use Rattle.edge.specs.Risen.{HasRisen}
use Rattle.written.specs.Handing.{HandsPieces}
use Rattle.written.specs.Handing.HandsPieces.{finished, stops, next}
use Rattle.written.specs.Writing.{Gains, GainsFront, Writes, BreaksOff}
use Rattle.written.proofs.Gaining.{Gains-nil, Gains-append, GainsFront-append, front_of_more}

module _ {S : Type 0} {sink : Ghosts S} where
  hands-append : (s t u : S) (first later : List (List ℕ)) (ending : Bool) → HandsPieces sink s first true t →
      HandsPieces sink t later ending u → HandsPieces sink s (first ++ later) ending u
  hands-append s t u first later ending (finished _) more = more
  hands-append s t u first later ending (next _ v _ piece pieces _ handed rest) more =
      next s v u piece (pieces ++ later) ending handed (hands-append v t u pieces later ending rest more)

  hands-more : (s t : S) (first later : List (List ℕ)) →
      HandsPieces sink s first false t → HandsPieces sink s (first ++ later) false t
  hands-more s t first later (stops _ _ piece pieces broken) = stops s t piece (pieces ++ later) broken
  hands-more s t first later (next _ v _ piece pieces _ handed rest) =
      next s v t piece (pieces ++ later) false handed (hands-more v t pieces later rest)

  pub Writes-nil : {s : S} → Writes sink s s []
  Writes-nil {s} = record { handed = finished s; gained = Gains-nil (sink.written s); no_fault = refl }

  pub Writes-append : {s t u : S} {first later : List (List ℕ)} →
      Writes sink s t first → Writes sink t u later → Writes sink s u (first ++ later)
  Writes-append {s} {t} {u} {first} {later} one two = record {
    handed = hands-append s t u first later true one.handed two.handed;
    gained = subst (λ (bytes : List ℕ). Gains (sink.written s) (sink.written u) bytes) (sym (concat-append first later))
        (Gains-append _ _ _ (concat first) (concat later) one.gained two.gained);
    no_fault = two.no_fault ∙ one.no_fault;
  }

  pub BreaksOff-append : {s t u : S} {first later : List (List ℕ)} →
      Writes sink s t first → BreaksOff sink t u later → BreaksOff sink s u (first ++ later)
  BreaksOff-append {s} {t} {u} {first} {later} one two = record {
    handed = hands-append s t u first later false one.handed two.handed;
    gained =
        subst (λ (bytes : List ℕ). GainsFront (sink.written s) (sink.written u) bytes) (sym (concat-append first later))
        (GainsFront-append _ _ _ (concat first) (concat later) one.gained two.gained);
    fault = subst (λ (n : ℕ). HasRisen n (sink.faults u)) one.no_fault two.fault;
  }

  pub BreaksOff-more : {s t : S} {first : List (List ℕ)} (later : List (List ℕ)) →
      BreaksOff sink s t first → BreaksOff sink s t (first ++ later)
  BreaksOff-more {s} {t} {first} later one = record {
    handed = hands-more s t first later one.handed;
    gained =
        subst (λ (bytes : List ℕ). GainsFront (sink.written s) (sink.written t) bytes) (sym (concat-append first later))
        (front_of_more _ _ (concat first) (concat later) one.gained);
    fault = one.fault;
  }
