use Rattle.std.proofs.Common.{◌<◌, nat_lt, arith}
use Rattle.std.proofs.lemmas.Bool.{OnTrue_from}
use borrow.Author.Tests.{ltb-true}
use Rattle.exact_cross.specs.PointLists.{points_in}
use Rattle.exact_cross.proofs.CallerLemmas.{IsAscending-points_in}
use Rattle.segmenter.specs.Whole.{IsBetween}
use Rattle.segmenter.proofs.WholeLemmas.{IsBetween-from_ends}
use Rattle.segmenter.proofs.whole.Extremes.are_between.Goals as goal

pub returns-then-highest-self-clause-between : goal.returns-then-highest-self-clause-between
returns-then-highest-self-clause-between g c =
    let p = points_in c.args.points in
    let ascends = IsAscending-points_in c.args.points in
    OnTrue_from (nat_lt c.args.self.now.bottom_height c.height-lowest.result)
    (IsBetween p c.args.from c.args.to c.args.self.now)
    (λ lower. let above : c.args.self.now.bottom_height < c.height-lowest.result = omega (arith, ltb-true) in
    IsBetween-from_ends p c.args.from c.args.to c.args.self.now ascends (omega arith) (omega arith) (omega arith))
