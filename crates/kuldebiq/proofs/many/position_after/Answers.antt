-- No number is above the question.
use Rattle.std.proofs.Common.{◌≡◌, ◌∙◌, ℕ, List, sym, ap, arith}
use Rattle.kuldebiq.specs.Positions.{at_most}
use Rattle.kuldebiq.proofs.many.position_after.Goals as goal

pub returns-in-None : goal.returns-in-None
returns-in-None c =
    let greatest : c.args.question ≡ 18446744073709551615 = omega (arith, c.in-None.ensures, c.ranges.question.fits) in
    c.count_of.ensures
    ∙ ap (λ (keys : List ℕ). at_most keys 18446744073709551615) (c.as_slice.ensures.keys ∙ c.keys.ensures)
    ∙ ap (at_most c.args.index.now.keys) (sym greatest)
