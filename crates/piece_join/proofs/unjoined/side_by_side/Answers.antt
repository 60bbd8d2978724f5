-- Each piece comes behind those before it, and after the last one all are there.
use Rattle.std.proofs.Common.{◌<◌, ◌++◌, ◌≡◌, ℕ, ◌+◌, List, Vec, Global, length}
use Rattle.std.proofs.Common.{take, sym, ap, subst, arith, ◌∙◌, add-one}
use Rattle.std.proofs.lemmas.List.{take_all}
use Rattle.exact_cross.specs.declared.segment.Segment.{Segment}
use Rattle.exact_cross.specs.PointLists.{points_in}
use Rattle.piece_join.specs.Pieces.{edge_of}
use Rattle.piece_join.specs.Relaxed.{IsRelaxed}
use Rattle.piece_join.proofs.CutLemmas.{edge_last}
use Rattle.piece_join.proofs.RelaxedLemmas.{IsRelaxed-next}
use Rattle.piece_join.proofs.unjoined.side_by_side.Goals as goal

pub loop-number-preserved : goal.loop-number-preserved
loop-number-preserved c =
    let work = c.args.work.now in
    let number = c.loop-number.number in
    let p = points_in work.points in
    let m = length work.points.xs.now in
    let inside :
    number < length work.cuts.now + 1 = omega (arith, c.loop-number-test.true, c.pieces-number-end.ensures) in
    let part = c.requires.each number (omega (arith, inside, c.requires.count)) c.index-parts-number.result in
    let next = IsRelaxed-next
    work number c.loop-number.whole.items _ inside c.loop-number.invariant.none c.loop-number.invariant.some part in
    record {
      none = λ never. absurd (omega (arith, never));
      some = λ k is.
          let same : number ≡ k = omega (arith, is) in
          let new = c.in_ok-extend_from_slice.ensures.items ∙ ap (λ (l : List Segment). c.loop-number.whole.items ++ l)
          (c.deref.ensures.value ∙ ap (λ (v : Vec Segment Global). v.items) c.index-parts-number.is) in
          subst (λ (n : ℕ). IsRelaxed p work.eps 0
          (edge_of m work.cuts.now (number + 1)) (take n work.cuts.now) c.extend_from_slice.new.self.items) same
          (subst (IsRelaxed p work.eps 0 (edge_of m work.cuts.now (number + 1)) (take number work.cuts.now))
          (sym new) next);
    }

pub returns : goal.returns
returns c =
    let work = c.args.work.now in
    let cuts = work.cuts.now in
    let p = points_in work.points in
    let m = length work.points.xs.now in
    let all : c.loop-number.number ≡ length cuts + 1 =
    omega (arith, c.loop-number-test.false, c.loop-number.auto.number-end, c.pieces-number-end.ensures) in
    let so_far = c.loop-number.invariant.some (length cuts) (all ∙ add-one (length cuts)) in
    let end : edge_of m cuts c.loop-number.number ≡ m = edge_last _ _ cuts all in
    subst (λ (n : ℕ). IsRelaxed p work.eps 0 n cuts c.loop-number.whole.items) end
    (subst (λ (l : List ℕ). IsRelaxed p work.eps 0 (edge_of m cuts c.loop-number.number) l c.loop-number.whole.items)
    (take_all (length cuts) cuts (omega arith)) so_far)
