-- One piece more stands at its place.
use Rattle.std.proofs.Common.{◌≡◌, ◌<◌, length, vec_len, inl, inr, subst, arith}
use Rattle.piece_join.specs.declared.work.Work.{Work}
use Rattle.piece_join.specs.Pieces.{IsPart}
use Rattle.piece_join.proofs.PlaceLemmas.{IsPlaced-kept, one_placed, of_taken, fits_taken, times-none}
use Rattle.piece_join.proofs.pieces.place_all.Goals as goal

pub loop-piece-preserved : goal.loop-piece-preserved
loop-piece-preserved c =
    let inv = c.loop-piece.invariant in
    let parts = c.loop-piece.parts.items in
    let left = c.loop-piece.pieces.items in
    let rest = c.pop.new.self.items in
    let piece = c.in-Some.piece in
    let taken = c.in-Some.ensures.items in
    let number = c.into_parts-number.result.0 in
    let part = c.into_parts-number.result.1 in
    let small = fits_taken (vec_len c.args.parts.now) left rest piece taken inv.inside in
    let inside : number < length parts =
    omega (arith, c.into_parts-number.ensures.inside, small.1, inv.len, c.loop-piece.parts.ok.0) in
    let is : (work : Work) → piece.of ≡ work → IsPart work number part.items =
    λ work own. subst (λ (w : Work). IsPart w number part.items) own c.into_parts-number.ensures.part in
    record {
      len = inv.len;
      inside = small.0;
      same = λ work own. (of_taken work left rest piece taken (inv.same work own)).0;
      kept = λ work i own before.
          IsPlaced-kept work parts number i part inside
          (is work (of_taken work left rest piece taken (inv.same work own)).1) (inv.kept work i own before);
      put = λ work i own some.
          one_placed work parts left rest piece part number i taken c.into_parts-number.ensures.number inside
          (is work (of_taken work left rest piece taken (inv.same work own)).1)
          (inv.put work i own some);
    }

pub returns-clause-placed : goal.returns-clause-placed
returns-clause-placed c = λ work i own some.
    elim (c.loop-piece.invariant.put work i own some) [
      | inl left ↦ absurd
          (omega (
            arith,
            left,
            times-none i c.loop-piece.pieces.items
                (omega (arith, c.in_default.ensures.cases, c.loop-piece.pieces.ok.0)),
          ))
      | inr placed ↦ placed
    ]
