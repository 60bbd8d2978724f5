use Rattle.std.proofs.Common.{inr}
use Rattle.log_levels.proofs.bare.Bare.without_put.Goals as goal

pub returns-in-Some : goal.returns-in-Some
returns-in-Some c = λ key inside.
    let (was, apart) = c.without.ensures key inside in
    (was, inr apart)
