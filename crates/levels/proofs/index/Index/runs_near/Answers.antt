-- The table is one over the first x of the runs of level 0.
use Rattle.std.proofs.Common.{length}
use Rattle.levels.specs.Entries.{share_of}
use Rattle.levels.specs.Indexes.{xs_at}
use Rattle.levels.specs.Stored.{segments_of}
use Rattle.levels.proofs.StoredLemmas.{segments_of-count}
use Rattle.levels.proofs.RunLemmas.{first_x-order}
use Rattle.levels.proofs.index.Index.runs_near.Goals as goal

pub returns : goal.returns
returns c =
    let own = c.self.inside in
    let levels = own.stored.items in
    let stored = c.self.invariant.stored in
    rw (← c.self.view_is, segments_of-count levels)
    (c.places.ensures (xs_at own.keys (segments_of levels) 1) (share_of own.bounds.eps_rec (length levels))
    (first_x-order own.keys own.bounds.eps own.bounds.eps_rec
    (segments_of levels) stored.first.never_falls stored.index)
    c.self.invariant.table_of)
