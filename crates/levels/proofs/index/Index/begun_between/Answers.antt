-- What is known is narrowed by what the table over the first x of the runs tells.
use Rattle.std.proofs.Common.{length}
use Rattle.radix_table.specs.Tables.{IsBetween}
use Rattle.levels.specs.Entries.{share_of}
use Rattle.levels.specs.Indexes.{xs_at}
use Rattle.levels.specs.Stored.{segments_of}
use Rattle.levels.proofs.RunLemmas.{first_x-order, narrowed}
use Rattle.levels.proofs.index.Index.begun_between.Goals as goal

pub returns-in-Some-clause-between : goal.returns-in-Some-clause-between
returns-in-Some-clause-between c =
    let value = c.args.self.now in
    let own = c.self.inside in
    let levels = own.stored.items in
    let stored = c.self.invariant.stored in
    let near : IsBetween (xs_at value.keys value.levels 1) c.args.q c.in-Some.from c.in-Some.to =
    rw (← c.self.view_is)
    (c.in-Some.ensures.between (xs_at own.keys (segments_of levels) 1) (share_of own.bounds.eps_rec (length levels))
    (first_x-order own.keys own.bounds.eps own.bounds.eps_rec
    (segments_of levels) stored.first.never_falls stored.index)
    c.self.invariant.table_of) in
    narrowed (xs_at value.keys value.levels 1) c.args.q c.args.least c.args.most
    c.in-Some.from c.in-Some.to c.max.result c.min.result c.requires.between near c.max.ensures c.min.ensures
