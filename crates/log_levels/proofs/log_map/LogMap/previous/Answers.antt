use Rattle.std.proofs.Common.{◌+◌, subst, sym}
use Rattle.log_levels.specs.Accepted.{entries_of}
use Rattle.log_levels.specs.Kept.{ArePlaces, IsBareIn, IsLastLive}
use Rattle.log_levels.proofs.DescentLemmas.{previous-stands}
use Rattle.log_levels.proofs.log_map.LogMap.previous.Goals as goal

pub previous_pair-requires : goal.previous_pair-requires
previous_pair-requires c = subst (λ k. ArePlaces c.args.self.now c.places_behind-places.result (k + 1))
    (sym c.from.ensures) c.places_behind-places.ensures

pub returns : goal.returns
returns c = λ updates stands.
    let bare = subst (λ held. IsBareIn held c.self.inside.bare) c.self.view_is c.self.invariant.bare in
    let live = subst (λ k. IsLastLive (entries_of updates) 0 (k + 1) c.previous_pair.result) c.from.ensures
    (c.previous_pair.ensures.live (entries_of updates) stands) in
    previous-stands updates c.args.q c.before-bound.result c.previous_pair.result c.before-bound.ensures.below
    (λ key above at_most. bare (entries_of updates) key stands (c.before-bound.ensures.bare key above at_most)) live
