use Rattle.std.proofs.Common.{◌≡◌, ◌≢◌, ℕ, List, [], ◌++◌, take, sym, ap, ◌∙◌, take-append-drop}
use Rattle.written.proofs.TailLemmas.{not_empty, empty, tail_is}
use Rattle.written.proofs.PieceSteps.{handed_none, handed_more, handed_all, handed_part}
use Rattle.written.proofs.handing.hand_over.Goals as goal

pub loop-rest-init : goal.loop-rest-init
loop-rest-init g c = handed_none g.S.Sink c.args.out.now c.args.piece.now

pub loop-rest-preserved : goal.loop-rest-preserved
loop-rest-preserved g c =
    let rest = c.loop-rest.rest.now in
    let n = c.in-Ok.taken in
    let some : rest ≢ [] = not_empty rest c.is_empty.result c.is_empty.ensures c.loop-rest-test.true in
    let put = c.in-Ok.ensures in
    let tail = tail_is rest n put.within in
    handed_more g.S.Sink c.args.out.now c.loop-rest.out c.put.new.self c.args.piece.now rest _ (take n rest) n some tail
    (sym (take-append-drop n rest) ∙ ap (λ (r : List ℕ). take n rest ++ r) (sym tail))
    put.call put.taken put.cause.ok c.loop-rest.invariant

pub returns-in-Err : goal.returns-in-Err
returns-in-Err g c =
    let rest = c.loop-rest.rest.now in
    let some : rest ≢ [] = not_empty rest c.is_empty.result c.is_empty.ensures c.loop-rest-test.true in
    handed_part g.S.Sink c.args.out.now c.loop-rest.out c.put.new.self c.args.piece.now rest c.in-Err.failed some
    c.in-Err.ensures.call c.in-Err.ensures.failed c.in-Err.ensures.cause.failed c.loop-rest.invariant

pub returns : goal.returns
returns g c =
    let rest = c.loop-rest.rest.now in
    let none : rest ≡ [] = empty rest c.is_empty.result c.is_empty.ensures c.loop-rest-test.false in
    handed_all g.S.Sink c.args.out.now c.loop-rest.out c.args.piece.now rest none c.loop-rest.invariant
