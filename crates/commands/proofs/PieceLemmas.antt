-- Lists of answers to pieces, put one behind the other.
use Rattle.std.proofs.Common.{◌≡◌, ◌∙◌, ◌+◌, ◌*◌, ◌<◌, ◌≤◌, ◌++◌, ◌∷◌, [], ℕ, zero, suc, List, ap, ap₂}
use Rattle.std.proofs.Common.{sym, get_or, length, map, take, add-one, add-mul, one-mul, zero-mul, arith}
use Rattle.std.specs.List.{flat_map}
use Rattle.std.proofs.Math.Seq.{take-add}
use Rattle.std.proofs.lemmas.List.{append-nil, map-append, take_all, take_more}
use Rattle.std.proofs.lemmas.Grind.{flat_map-append}
use Rattle.commands.specs.Pieces.{piece_of}

module _ {V : Type 0} (items : V → List ℕ) (d : V) (answer : ℕ → ℕ) (questions : List ℕ) (size : ℕ) (pieces : List V)
    (each : (k : ℕ) → k < length pieces → items (get_or pieces k d) ≡ map answer (piece_of questions size k)) where
  first_pieces : (n : ℕ) → n ≤ length pieces → flat_map items (take n pieces) ≡ map answer (take (n * size) questions)
  first_pieces zero within = sym (ap (λ (k : ℕ). map answer (take k questions)) (zero-mul size))
  first_pieces (suc n) within =
      ap (λ (k : ℕ). flat_map items (take k pieces)) (sym (add-one n))
      ∙ ap (flat_map items) (take_more pieces n d (omega (arith, within)))
      ∙ flat_map-append items (take n pieces) (get_or pieces n d ∷ [])
      ∙ ap₂ (λ (a b : List ℕ). a ++ b) (first_pieces n (omega (arith, within)))
      (append-nil (items (get_or pieces n d)) ∙ each n (omega (arith, within)))
      ∙ sym (map-append answer (take (n * size) questions) (piece_of questions size n))
      ∙ ap (map answer) (sym (take-add (n * size) size questions) ∙ ap (λ (k : ℕ). take k questions) more)
    where
      more : n * size + size ≡ suc n * size
      more = ap (λ (k : ℕ). n * size + k) (sym (one-mul size))
          ∙ sym (add-mul n 1 size) ∙ ap (λ (k : ℕ). k * size) (add-one n)

  -- the answers to all questions, where there are enough pieces
  pub all_pieces : length questions ≤ length pieces * size → flat_map items pieces ≡ map answer questions
  all_pieces enough =
      ap (flat_map items) (sym (take_all (length pieces) pieces (omega arith)))
      ∙ first_pieces (length pieces) (omega arith)
      ∙ ap (map answer) (take_all (length pieces * size) questions enough)
