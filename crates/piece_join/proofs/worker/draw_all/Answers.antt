-- One number more is drawn, and its piece stands behind the others.
use Rattle.std.proofs.Common.{◌≡◌, [], ◌∷◌, ◌++◌, ℕ, length, ap, sym, subst, ◌∙◌, arith}
use Rattle.std.proofs.lemmas.List.{map-append, length_push}
use Rattle.std.proofs.lemmas.List.Elements.{All-push}
use Rattle.claims.specs.Claims.{Origin}
use Rattle.piece_join.specs.Pieces.{Pieced}
use Rattle.piece_join.proofs.DrawLemmas.{AreFew, IsDraw-some, AreFew-more}
use Rattle.piece_join.proofs.worker.draw_all.Goals as goal

pub loop-number-smaller : goal.loop-number-smaller
loop-number-smaller g c =
    let drawn = c.loop-number.seat.drawn in
    let more = IsDraw-some c.loop-number.seat c.draw.new.self c.in-Some.number c.in-Some.ensures.draw in
    let count = ap length more ∙ length_push drawn c.in-Some.number in
    let few = c.loop-number.invariant.few.few c.in-Some.number c.in-Some.ensures.rises in
    let pieces = ap (λ (o : Origin). o.pieces) c.loop-number.invariant.own in
    omega (arith, count, few, pieces, c.in-Some.ensures.below, c.requires.pieces)

pub loop-number-preserved : goal.loop-number-preserved
loop-number-preserved g c =
    let inv = c.loop-number.invariant in
    let more = IsDraw-some c.loop-number.seat c.draw.new.self c.in-Some.number c.in-Some.ensures.draw in
    let piece = c.in_ok-segmented.field-0 in
    let pieces = c.loop-number.pieces.items in
    record {
      own = c.in-Some.ensures.own ∙ inv.own;
      drawn = rw (c.in_ok-push.ensures.items, more)
          (map-append (λ (p : Pieced). p.number) pieces (piece ∷ []) ∙ ap (λ l. l ++ piece.number ∷ []) inv.drawn
          ∙ ap (λ (n : ℕ). c.loop-number.seat.drawn ++ n ∷ []) c.in_ok-segmented.ensures.number);
      same = rw c.in_ok-push.ensures.items
          (All-push (λ (p : Pieced). p.of ≡ c.args.work.now) pieces piece inv.same c.in_ok-segmented.ensures.of);
      few = subst AreFew
          (sym more) (AreFew-more c.loop-number.seat.drawn c.in-Some.number inv.few c.in-Some.ensures.rises);
    }
