use Rattle.std.proofs.Common.{subst}
use Rattle.log_levels.specs.Accepted.{entries_of}
use Rattle.log_levels.specs.Kept.{IsBareIn, IsNextLive}
use Rattle.log_levels.proofs.BareLemmas.{next-bare}
use Rattle.log_levels.proofs.WalkLemmas.{next-stands}
use Rattle.log_levels.proofs.log_map.LogMap.next.Goals as goal

pub returns : goal.returns
returns c = λ updates stands.
    let bare = subst (λ held. IsBareIn held c.self.inside.bare) c.self.view_is c.self.invariant.bare in
    let live = subst (λ q. IsNextLive (entries_of updates) q c.next_pair.result) c.from.ensures
    (c.next_pair.ensures.live (entries_of updates) stands) in
    next-stands updates c.args.q c.next_pair.result
    (next-bare (entries_of updates) c.args.q c.behind-start.result c.next_pair.result c.behind-start.ensures.above
    (λ key above below. bare (entries_of updates) key stands (c.behind-start.ensures.bare key above below)) live)
