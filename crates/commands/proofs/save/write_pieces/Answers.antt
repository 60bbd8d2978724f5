-- One piece after the other.
use Rattle.std.proofs.Common.{◌≡◌, ◌+◌, ◌<◌, [], ◌∷◌, ◌++◌, ◌∙◌, ap, sym, drop, drop-cons}
use Rattle.std.proofs.Common.{add-one, get_or, length, map, arith, ℕ, List, Vec, Global}
use Rattle.std.proofs.lemmas.List.{drop_all}
use Rattle.written.proofs.LoopLemmas.{written_none, written_more, written_all, broken_there}
use Rattle.written.proofs.WritingLemmas.{broken}
use Rattle.commands.proofs.save.write_pieces.Goals as goal

abbrev items : Vec ℕ Global → List ℕ
items piece = piece.items

-- what is left begins with this piece
begins : (pieces : List (Vec ℕ Global)) (i : ℕ) (bytes : List ℕ) (piece : Vec ℕ Global) →
    i < length pieces → piece ≡ get_or pieces i piece → bytes ≡ piece.items →
    map items (drop i pieces) ≡ (bytes ∷ []) ++ map items (drop (i + 1) pieces)
begins pieces i bytes piece there at is =
    ap (map items)
    (drop-cons pieces i piece there ∙ ap (λ (n : ℕ). get_or pieces i piece ∷ drop n pieces) (sym (add-one i)))
    ∙ ap (λ (p : List ℕ). p ∷ map items (drop (i + 1) pieces)) (sym (is ∙ ap items at))

pub loop-i-init : goal.loop-i-init
loop-i-init g c = written_none

pub loop-i-preserved : goal.loop-i-preserved
loop-i-preserved g c =
    let piece = c.as_slice.result.now in
    written_more c.loop-i.invariant c.in_ok-hand_over.ensures
    (begins c.args.pieces.now c.loop-i.i piece c.index-pieces-i.result
    (omega arith) c.index-pieces-i.is c.as_slice.ensures.value)

pub returns-in_err-hand_over : goal.returns-in_err-hand_over
returns-in_err-hand_over g c =
    let piece = c.as_slice.result.now in
    broken _ c.from_residual.result c.from_residual.ensures.1
    (broken_there _ c.loop-i.invariant c.in_err-hand_over.ensures
    (begins c.args.pieces.now c.loop-i.i piece c.index-pieces-i.result
    (omega arith) c.index-pieces-i.is c.as_slice.ensures.value))

pub returns : goal.returns
returns g c =
    written_all c.loop-i.invariant
    (ap (map items) (drop_all c.loop-i.i c.args.pieces.now (omega arith)))
