-- One hint after the other.
use Rattle.std.proofs.Common.{◌≡◌, ◌+◌, ◌<◌, ◌^◌, [], ◌∷◌, ◌++◌, ◌∙◌, ap, sym, drop}
use Rattle.std.proofs.Common.{drop-cons, add-one, get_or, length, arith, ℕ, List}
use Rattle.std.proofs.lemmas.List.{drop_all}
use Rattle.std.proofs.lemmas.List.Elements.{All-from_get_or}
use Rattle.written.proofs.LoopLemmas.{written_none, written_more, written_all, broken_there}
use Rattle.commands.specs.Texts.Hints.{hint_bytes, hint_pieces}
use Rattle.written.proofs.WritingLemmas.{broken}
use Rattle.commands.proofs.hint_numbers.write_hints.Goals as goal

-- what is left begins with the bytes of this hint
begins : (hints : List ℕ) (i d : ℕ) (piece : List ℕ) → i < length hints → piece ≡ hint_bytes (get_or hints i d) →
    hint_pieces (drop i hints) ≡ (piece ∷ []) ++ hint_pieces (drop (i + 1) hints)
begins hints i d piece there is =
    ap hint_pieces (drop-cons hints i d there ∙ ap (λ (n : ℕ). get_or hints i d ∷ drop n hints) (sym (add-one i)))
    ∙ ap (λ (line : List ℕ). line ∷ hint_pieces (drop (i + 1) hints)) (sym is)

pub loop-i-init : goal.loop-i-init
loop-i-init g c = written_none

pub loop-i-preserved : goal.loop-i-preserved
loop-i-preserved g c =
    let piece = c.bytes_of.result in
    written_more c.loop-i.invariant c.in_ok-hand_over.ensures
    (begins c.args.hints.now c.loop-i.i 0 piece (omega arith) c.bytes_of.ensures)

pub returns-in_err-hand_over-clause-written : goal.returns-in_err-hand_over-clause-written
returns-in_err-hand_over-clause-written g c =
    let piece = c.bytes_of.result in
    broken _ c.from_residual.result c.from_residual.ensures.1
    (broken_there _ c.loop-i.invariant c.in_err-hand_over.ensures
    (begins c.args.hints.now c.loop-i.i 0 piece (omega arith) c.bytes_of.ensures))

pub returns-clause-written : goal.returns-clause-written
returns-clause-written g c =
    written_all c.loop-i.invariant
    (ap hint_pieces (drop_all c.loop-i.i c.args.hints.now (omega arith)))

pub returns-clause-small : goal.returns-clause-small
returns-clause-small g c = All-from_get_or
    (λ (hint : ℕ). hint < 2 ^ 64) c.args.hints.now 0 (λ i within. omega (arith, (c.type_inv.hints i).fits))

pub returns-in_err-hand_over-clause-small : goal.returns-in_err-hand_over-clause-small
returns-in_err-hand_over-clause-small g c = All-from_get_or
    (λ (hint : ℕ). hint < 2 ^ 64) c.args.hints.now 0 (λ i within. omega (arith, (c.type_inv.hints i).fits))
