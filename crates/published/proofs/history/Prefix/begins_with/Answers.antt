use Rattle.std.proofs.Common.{◌≤◌, ap, subst, arith, List}
use mathlib.Core.List.{IsPrefix}
use Rattle.log_levels.specs.declared.update.Update.{Update}
use Rattle.published.specs.Histories.{count_of}
use Rattle.published.proofs.Prefixes.{prefix_shorter}
use Rattle.published.proofs.history.Prefix.begins_with.Goals as goal

pub returns : goal.returns
returns c =
    let both = c.learn.new.self.log in
    let this : IsPrefix c.self.inside.seen.log both =
    subst (λ (l : List (List Update)). IsPrefix l both) (ap (λ s. s.log) c.again-both.ensures) c.learn.ensures.2 in
    let less : count_of c.other.inside.seen.log ≤ count_of c.self.inside.seen.log =
    omega (arith, c.self.invariant.0, c.other.invariant.0) in
    rw (← c.self.view_is, ← c.other.view_is)
    (prefix_shorter
    c.other.inside.seen.log c.self.inside.seen.log both c.learn.ensures.4.1.filled c.learn.ensures.3 this less)
