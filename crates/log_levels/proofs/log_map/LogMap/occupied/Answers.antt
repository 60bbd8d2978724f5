use Rattle.std.proofs.Common.{◌/◌, subst, sym, ap, ◌∙◌, arith}
use Rattle.std.specs.Int.{bit_at}
use Rattle.log_levels.specs.Shapes.{Held, IsCutOf}
use Rattle.log_levels.proofs.SearchLemmas.{blocks-few}
use Rattle.log_levels.proofs.OccupiedLemmas.{level-free, level-taken}
use Rattle.log_levels.proofs.log_map.LogMap.occupied.Goals as goal

pub returns-clause-within : goal.returns-clause-within
returns-clause-within c =
    let (entries, cut) = c.self.invariant.cut in
    let held : IsCutOf c.args.self.now entries = subst (λ held. IsCutOf held entries) c.self.view_is cut in
    let blocks = ap (λ (map : Held). map.accepted / 64) c.self.view_is in
    omega (arith, blocks, blocks-few c.args.self.now entries held, ap (λ n. n / 64) held.accepted)

pub returns-clause-free : goal.returns-clause-free
returns-clause-free c = λ i inside clear.
    let (entries, cut) = c.self.invariant.cut in
    let held : IsCutOf c.args.self.now entries = subst (λ held. IsCutOf held entries) c.self.view_is cut in
    level-free c.args.self.now entries i held inside
    (ap (λ (map : Held). bit_at (map.accepted / 64) i) (sym c.self.view_is) ∙ clear)

pub returns-clause-taken : goal.returns-clause-taken
returns-clause-taken c = λ i set.
    let (entries, cut) = c.self.invariant.cut in
    let held : IsCutOf c.args.self.now entries = subst (λ held. IsCutOf held entries) c.self.view_is cut in
    level-taken c.args.self.now entries i held
    (ap (λ (map : Held). bit_at (map.accepted / 64) i) (sym c.self.view_is) ∙ set)
