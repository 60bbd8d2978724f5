-- The closure tests an entry's key, so the place is that before which all keys are below.
use Rattle.std.proofs.Common.{ltb, rules, of_calls}
use Rattle.std.proofs.lemmas.Fn.{always_returns_same}
use Rattle.std.proofs.lemmas.List.Sorted.{IsPartitionedBy-ltb}
use Rattle.tombstones.specs.declared.entry.Entry.{Entry}
use Rattle.tombstones.proofs.PartLemmas.{keys_never_fall, before_place, from_place}
use Rattle.tombstones.proofs.place_of.Goals as goal

pub returns-clause-below : goal.returns-clause-below
returns-clause-below c =
    let point = c.partition_point.ensures.partitioned
    (λ (x : Entry). ltb x.key c.args.key) (always_returns_same _ _ _ (λ a r f k. search (rules, of_calls)))
    (IsPartitionedBy-ltb
    (λ (x : Entry). x.key) c.args.entries.now c.args.key (keys_never_fall c.args.entries.now c.requires)) in
    before_place c.args.entries.now c.args.key c.partition_point.result point

pub returns-clause-from : goal.returns-clause-from
returns-clause-from c =
    let point = c.partition_point.ensures.partitioned
    (λ (x : Entry). ltb x.key c.args.key) (always_returns_same _ _ _ (λ a r f k. search (rules, of_calls)))
    (IsPartitionedBy-ltb
    (λ (x : Entry). x.key) c.args.entries.now c.args.key (keys_never_fall c.args.entries.now c.requires)) in
    from_place c.args.entries.now c.args.key c.partition_point.result point
