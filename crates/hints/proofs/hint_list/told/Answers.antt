-- What is told where the hints are in the format, and where they aren't.
use Rattle.std.proofs.Common.{inl, inr, refl, arith}
use Rattle.hints.specs.Told.{IsTold}
use Rattle.hints.proofs.LineLemmas.{length-first_xs}
use Rattle.hints.proofs.hint_list.told.Goals as goal

pub returns-in_default-clause-place : goal.returns-in_default-clause-place
unfolding IsTold
returns-in_default-clause-place c = inr (c.in_default.ensures.none, refl)

pub place_told-requires : goal.place_told-requires
place_told-requires c = omega (arith, length-first_xs c.in-Some.lines.now, c.lines_begun-begun.ensures.within)

pub returns-clause-place : goal.returns-clause-place
unfolding IsTold
returns-clause-place c =
    let whole = c.in-Some.ensures.whole in
    inl (
      whole.0,
      (c.lines_begun-begun.result, rw whole.1 at c.lines_begun-begun.ensures, rw whole.1 at c.place_told.ensures.told),
    )
