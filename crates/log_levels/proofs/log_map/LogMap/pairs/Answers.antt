use Rattle.std.proofs.Common.{◌+◌, subst, sym, ap, ◌∙◌, arith}
use Rattle.log_levels.specs.Accepted.{entries_of}
use Rattle.log_levels.specs.Kept.{IsBareIn, IsLeft}
use Rattle.log_levels.specs.Maps.{map_after, pairs_between}
use Rattle.log_levels.proofs.BareLemmas.{range-bare}
use Rattle.log_levels.proofs.PairLemmas.{pairs-bare_end}
use Rattle.log_levels.proofs.ValueLemmas.{value-after}
use Rattle.log_levels.proofs.log_map.LogMap.pairs.Goals as goal

pub invariant_of-result : goal.invariant_of-result
invariant_of-result c = record {
  few = omega (arith, c.from.ensures);
  front = λ some. subst (IsLeft c.args.self.now c.walk.result) (sym c.from.ensures) c.walk.ensures;
  back = λ some. c.places_behind.ensures;
}

pub returns-clause-left : goal.returns-clause-left
returns-clause-left c = λ updates stands.
    let bare = subst (λ held. IsBareIn held c.self.inside.bare) c.self.view_is c.self.invariant.bare in
    ap (λ k. pairs_between (map_after updates) k c.before-high.result) c.from.ensures
    ∙ sym (range-bare updates c.args.low c.behind-low.result c.before-high.result c.behind-low.ensures.above
    (λ key above below. bare (entries_of updates) key stands (c.behind-low.ensures.bare key above below)))
    ∙ sym (pairs-bare_end updates c.args.low c.before-high.result c.args.high c.before-high.ensures.below
    (λ key above at_most. value-after updates key
    ∙ bare (entries_of updates) key stands (c.before-high.ensures.bare key above at_most)))
