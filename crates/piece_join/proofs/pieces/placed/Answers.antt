-- One worker's pieces more are placed; at the end the claims tell that each piece is.
use Rattle.std.proofs.Common.{◌≡◌, ◌<◌, Some, length, vec_len, ap, arith}
use Rattle.std.proofs.lemmas.List.{length_push}
use Rattle.std.proofs.lemmas.List.Elements.{All-pop, All-push, All-weaker}
use Rattle.claims.specs.Claims.{Drawn}
use Rattle.piece_join.specs.declared.work.Work.{Work}
use Rattle.piece_join.specs.Pieces.{Pieced}
use Rattle.piece_join.specs.Worked.{IsWorked}
use Rattle.piece_join.proofs.PlaceLemmas.{IsDone-from_worked, one_done, ended_count-push, all_placed}
use Rattle.piece_join.proofs.pieces.placed.Goals as goal

pub place_all-requires : goal.place_all-requires
place_all-requires c =
    let work = c.args.work.now in
    let origin = c.args.claims.origin in
    let inv = c.loop-worked.invariant in
    let left = All-pop (IsWorked work origin) c.loop-worked.done.items c.pop.new.self.items
    (Some c.in-Some.worked) c.in-Some.ensures.items inv.each in
    let done = IsDone-from_worked work origin c.in-Some.worked c.in_ok-pieces.field-0 c.in_ok-pieces.was left.1 in
    All-weaker (λ (p : Pieced). p.of ≡ work) (λ (p : Pieced). length p.of.cuts.now < vec_len c.loop-worked.parts)
    (λ p own. omega (arith, ap (λ (w : Work). length w.cuts.now) own, inv.parts)) c.in_ok-pieces.field-0.items done.same

pub loop-worked-preserved : goal.loop-worked-preserved
loop-worked-preserved c =
    let work = c.args.work.now in
    let origin = c.args.claims.origin in
    let inv = c.loop-worked.invariant in
    let seats = c.loop-worked.seats.items in
    let seat = c.in-Some.worked.seat in
    let pieces = c.in_ok-pieces.field-0.items in
    let left = All-pop (IsWorked work origin) c.loop-worked.done.items c.pop.new.self.items
    (Some c.in-Some.worked) c.in-Some.ensures.items inv.each in
    let done = IsDone-from_worked work origin c.in-Some.worked c.in_ok-pieces.field-0 c.in_ok-pieces.was left.1 in
    let count = length_push seats seat in
    rw c.in_ok-push.ensures.items (record {
      parts = omega (arith, inv.parts, c.place_all.ensures.len);
      count = omega (arith, inv.count, count, c.in-Some.ensures.cases);
      own = All-push (λ (s : Drawn). s.origin ≡ origin) seats seat inv.own done.own;
      ended = omega (arith, ended_count-push seats seat done.ended, inv.ended, count);
      each = left.0;
      put = one_done work origin c.loop-worked.parts.items c.place_all.new.parts.items seats seat pieces done
          (λ i before. c.place_all.ensures.kept work i done.same before)
          (λ i some. c.place_all.ensures.placed work i done.same some) inv.put;
    })

pub returns : goal.returns
returns c =
    let inv = c.loop-worked.invariant in
    let pieces = c.args.claims.origin.pieces in
    let none_left : vec_len c.loop-worked.done ≡ 0 = omega (arith, c.in_default.ensures.cases) in
    all_placed c.args.work.now c.loop-worked.parts.items c.loop-worked.seats.items c.close.result pieces
    (omega (arith, inv.count, c.requires.staffed)) c.requires.pieces
    (omega (arith, inv.parts, c.loop-worked.parts.ok.0)) inv.ended c.close.ensures.once c.close.ensures.word inv.put
