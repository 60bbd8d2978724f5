use Rattle.std.proofs.Common.{arith}
use Rattle.exact_cross.specs.PointLists.{points_in}
use Rattle.exact_cross.proofs.CallerLemmas.{IsAscending-points_in}
use Rattle.segmenter.proofs.WholeLemmas.{IsWhole-from_extremes}
use Rattle.segmenter.proofs.whole.whole_run.Goals as goal

pub go_over-requires-clause-none : goal.go_over-requires-clause-none
go_over-requires-clause-none g c =
    c.of-found.ensures.none c.args.from c.args.to c.loop.invariant.from_start c.loop.invariant.to_end

pub returns-then-found-b-clause-whole : goal.returns-then-found-b-clause-whole
returns-then-found-b-clause-whole g c =
    let p = points_in c.args.points in
    let ascends = IsAscending-points_in c.args.points in
    IsWhole-from_extremes
    p c.args.eps c.args.from c.args.to c.loop.a c.loop.b c.go_over.new.self ascends c.requires.within
    (λ j inside. omega (arith, c.args.points.narrow j)) (rw c.go_over.ensures.line c.of-found.ensures.line)
    c.if-found-a.true c.if-found-b.true c.loop.invariant.rises c.if-not-go_over.ensures.all
