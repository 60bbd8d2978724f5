-- A loop that writes piece after piece, or answer after answer.
--
-- Main results: for given pieces `HasWritten` says which of all
-- are left, and where each is told of an element of a list (`map`),
-- the next is that of the element at this place; for questions
-- answered in turn `HasTold` says which have their answer. Where
-- a piece or an answer broke off, so did all of them, if those that are left have one.
use Rattle.std.proofs.Common.{◌≡◌, ℕ, zero, ◌+◌, ◌<◌, ◌≤◌, List, [], ◌∷◌, ◌++◌, length, map, get_or, take, drop}
use Rattle.std.proofs.Common.{refl, sym, ◌∙◌, ap, subst, append_assoc, drop-cons, add-one}
use Rattle.std.specs.Prelude.{All}
use Rattle.std.proofs.lemmas.List.{append-nil, drop_all, take_all, take_more, take-append-drop}
use Rattle.edge.specs.declared.sink.Sink.{Ghosts}
use Rattle.written.specs.Writing.{Writes, BreaksOff}
use Rattle.written.specs.InTurn.{TellsEach}
use Rattle.written.proofs.AppendLemmas.{Writes-nil, Writes-append, BreaksOff-append, BreaksOff-more}
use Rattle.written.proofs.InTurnLemmas.{each_append, each_more}

-- of all pieces, these are left
pub record HasWritten {S : Type 0} (sink : Ghosts S) (start now : S) (all rest : List (List ℕ)) : Type 0 where
  pub done : List (List ℕ)
  pub split : all ≡ done ++ rest
  pub written : Writes sink start now done

-- these questions are answered
abbrev pub HasTold : {S A : Type 0} → Ghosts S → (A → List (List ℕ) → Type 0) → S → S → List A → Type 0
HasTold sink Tells start now questions =
    (pieces : List (List ℕ)) × TellsEach Tells questions pieces × Writes sink start now pieces

module _ {S : Type 0} {sink : Ghosts S} where
  pub written_none : {s : S} {all : List (List ℕ)} → HasWritten sink s s all all
  written_none = record { done = []; split = refl; written = Writes-nil }

  pub written_more : {start now new : S} {all rest left pieces : List (List ℕ)} →
      HasWritten sink start now all rest → Writes sink now new pieces →
      rest ≡ pieces ++ left → HasWritten sink start new all left
  written_more {start} {now} {new} {all} {rest} {left} {pieces} so_far more is = record {
    done = so_far.done ++ pieces;
    split = so_far.split ∙ ap (λ (r : List (List ℕ)). so_far.done ++ r) is ∙ sym (append_assoc so_far.done pieces left);
    written = Writes-append so_far.written more;
  }

  pub written_all : {start now : S} {all rest : List (List ℕ)} →
      HasWritten sink start now all rest → rest ≡ [] → Writes sink start now all
  written_all {start} {now} {all} {rest} so_far none =
      subst (λ (pieces : List (List ℕ)). Writes sink start now pieces)
      (sym (append-nil so_far.done) ∙ ap (λ (r : List (List ℕ)). so_far.done ++ r) (sym none) ∙ sym so_far.split)
      so_far.written

  pub broken_there : {start now new : S} {all rest pieces : List (List ℕ)} (left : List (List ℕ)) →
      HasWritten sink start now all rest → BreaksOff sink now new pieces →
      rest ≡ pieces ++ left → BreaksOff sink start new all
  broken_there {start} {now} {new} {all} {rest} {pieces} left so_far broken is =
      subst (λ (p : List (List ℕ)). BreaksOff sink start new p)
      (ap (λ (r : List (List ℕ)). so_far.done ++ r) (sym is) ∙ sym so_far.split)
      (BreaksOff-append so_far.written (BreaksOff-more left broken))

-- pieces that are each told of an element
module _ {A : Type 0} (tell : A → List ℕ) (xs : List A) (i : ℕ) where
  begins : (piece : List ℕ) (d : A) → i < length xs → piece ≡ tell (get_or xs i d) →
      map tell (drop i xs) ≡ (piece ∷ []) ++ map tell (drop (i + 1) xs)
  begins piece d there is =
      ap (map tell) (drop-cons xs i d there ∙ ap (λ (n : ℕ). get_or xs i d ∷ drop n xs) (sym (add-one i)))
      ∙ ap (λ (p : List ℕ). p ∷ map tell (drop (i + 1) xs)) (sym is)

  module _ {S : Type 0} {sink : Ghosts S} {start now : S}
      (so_far : HasWritten sink start now (map tell xs) (map tell (drop i xs))) where
    pub mapped_more : {new : S} {piece : List ℕ} (d : A) → Writes sink now new (piece ∷ []) →
        i < length xs → piece ≡ tell (get_or xs i d) →
        HasWritten sink start new (map tell xs) (map tell (drop (i + 1) xs))
    mapped_more {new} {piece} d more there is = written_more so_far more (begins piece d there is)

    pub mapped_broken : {new : S} {piece : List ℕ} (d : A) → BreaksOff sink now new (piece ∷ []) →
        i < length xs → piece ≡ tell (get_or xs i d) → BreaksOff sink start new (map tell xs)
    mapped_broken {new} {piece} d broken there is = broken_there _ so_far broken (begins piece d there is)

    pub mapped_all : length xs ≤ i → Writes sink start now (map tell xs)
    mapped_all past = written_all so_far (ap (map tell) (drop_all i xs past))

-- a list around one place
around : {A : Type 0} (xs : List A) (i : ℕ) (d : A) → i < length xs → take i xs ++ get_or xs i d ∷ drop (i + 1) xs ≡ xs
around {A} xs i d there =
    ap (λ (rest : List A). take i xs ++ rest)
    (sym (drop-cons xs i d there ∙ ap (λ (n : ℕ). get_or xs i d ∷ drop n xs) (sym (add-one i))))
    ∙ take-append-drop i xs

-- questions that are answered in turn
module _ {S A : Type 0} {sink : Ghosts S} (Tells : A → List (List ℕ) → Type 0) (questions : List A) where
  pub told_none : {s : S} → HasTold sink Tells s s (take 0 questions)
  told_none = ([], refl, Writes-nil)

  pub told_more : {start now new : S} (i : ℕ) (d : A) → HasTold sink Tells start now (take i questions) →
      (pieces : List (List ℕ)) × Tells (get_or questions i d) pieces × Writes sink now new pieces →
      i < length questions → HasTold sink Tells start new (take (i + 1) questions)
  told_more i d (pieces, told, written) (first, one, more) there = (
    pieces ++ first,
    subst (λ (q : List A). TellsEach Tells q (pieces ++ first)) (sym (take_more questions i d there))
        (each_more Tells (take i questions) (get_or questions i d) pieces first told one),
    Writes-append written more,
  )

  pub told_all : {start now : S} (i : ℕ) → HasTold sink Tells start now (take i questions) →
      length questions ≤ i → HasTold sink Tells start now questions
  told_all {start} {now} i so_far past =
      subst (λ (q : List A). HasTold sink Tells start now q) (take_all i questions past) so_far

  pub told_broken : {start now new : S} (i : ℕ) (d : A) → HasTold sink Tells start now (take i questions) →
      (pieces : List (List ℕ)) × Tells (get_or questions i d) pieces × BreaksOff sink now new pieces →
      (later : List (List ℕ)) × TellsEach Tells (drop (i + 1) questions) later → i < length questions →
      (pieces : List (List ℕ)) × TellsEach Tells questions pieces × BreaksOff sink start new pieces
  told_broken i d (pieces, told, written) (first, one, broken) (later, left) there = (
    pieces ++ (first ++ later),
    subst (λ (q : List A). TellsEach Tells q (pieces ++ (first ++ later))) (around questions i d there)
        (each_append Tells (take i questions) (get_or questions i d ∷ drop (i + 1) questions) pieces (first ++ later)
        told (first, later, one, left, refl)),
    BreaksOff-append written (BreaksOff-more later broken),
  )
