-- A run that isn't judged right refuses the level, and once each is the first start decides.
use Rattle.std.proofs.Common.{◌≡◌, sym, ◌∙◌, arith}
use Rattle.std.proofs.lemmas.Bool.{eqb-true, eq-eqb}
use Rattle.exact_cross.specs.PointLists.{points_in}
use Rattle.exact_cross.proofs.CallerLemmas.{IsAscending-points_in}
use Rattle.index_file.proofs.JudgedRuns.{IsSavedSegmentation-from_judged, judged-from_saved, judged_before}
use Rattle.index_file.proofs.checking.is_level.Goals as goal

pub returns-then-not-is_run : goal.returns-then-not-is_run
returns-then-not-is_run c =
    let p = points_in c.args.points in
    record {
      exact = (
        λ never. absurd (cc never),
        λ saved. c.if-not-is_run.ensures.exact.1
            (judged_before p c.args.eps
            c.loop-i.i c.loop-i.end c.args.runs.now _ c.loop-i-test.true c.loop-i.auto.i c.loop-i.invariant.end
            (judged-from_saved p c.args.eps c.args.runs.now saved).1),
      );
    }

pub returns : goal.returns
returns c =
    let p = points_in c.args.points in
    let none : c.loop-i.i ≡ 0 = omega arith in
    let ascends = IsAscending-points_in c.args.points in
    record {
      exact = (
        λ test. IsSavedSegmentation-from_judged p c.args.eps c.args.runs.now ascends
            (sym (rw none at c.loop-i.invariant.end) ∙ eqb-true _ _ test) (rw none at c.loop-i.invariant.judged),
        λ saved.
            eq-eqb _ _ ((rw none at c.loop-i.invariant.end) ∙ (judged-from_saved p c.args.eps c.args.runs.now saved).0),
      );
    }
