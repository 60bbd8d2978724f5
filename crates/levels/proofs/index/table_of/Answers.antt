-- The first x of the runs of level 0 rise, and are no more than keys. The empty table is one of any numbers.
use Rattle.std.proofs.Common.{ℕ, List, length, sym, ap, subst, arith}
use Rattle.std.proofs.lemmas.Result.{IfOk-weaker}
use Rattle.radix_table.specs.Tables.{AreCounts, step_of}
use Rattle.std.specs.List.Sorted.{IsNonDecreasing}
use Rattle.levels.specs.Entries.{share_of}
use Rattle.levels.specs.Indexes.{xs_at}
use Rattle.levels.specs.Stored.{segments_of}
use Rattle.levels.proofs.StoredLemmas.{segments_of-count}
use Rattle.levels.proofs.LookupLemmas.{ascends}
use Rattle.levels.proofs.RunLemmas.{first_x-order}
use Rattle.levels.proofs.index.table_of.Goals as goal

pub over-requires-clause-order : goal.over-requires-clause-order
over-requires-clause-order c =
    let stored = c.requires.stored.1 in
    subst IsNonDecreasing (sym (c.firsts_at.ensures c.args._keys.now c.requires.stored.0 c.args.eps_rec stored.first))
    (first_x-order c.args._keys.now c.requires.stored.0 c.args.eps_rec
    (segments_of c.args.levels.now) stored.first.never_falls stored.index)

pub over-requires-clause-few : goal.over-requires-clause-few
over-requires-clause-few c =
    let stored = c.requires.stored.1 in
    let here = ascends c.args._keys.now c.requires.stored.0 c.args.eps_rec
    (segments_of c.args.levels.now) stored.first.never_falls stored.index 1
    (omega (arith, segments_of-count c.args.levels.now, c.if-levels-lt2.false)) in
    omega (
      arith,
      ap length (c.firsts_at.ensures c.args._keys.now c.requires.stored.0 c.args.eps_rec stored.first),
      here.few,
      stored.first.few,
    )

pub returns-then-levels-lt2 : goal.returns-then-levels-lt2
returns-then-levels-lt2 c = c.empty.ensures
    (xs_at c.args._keys.now (segments_of c.args.levels.now) 1) (share_of c.args.eps_rec (length c.args.levels.now))

pub returns : goal.returns
returns c =
    let stored = c.requires.stored.1 in
    let is = c.firsts_at.ensures c.args._keys.now c.requires.stored.0 c.args.eps_rec stored.first in
    IfOk-weaker c.over.result _ _ (λ table own. record {
      scale = own.scale;
      counts = subst (λ (xs : List ℕ). AreCounts (step_of table.scale) xs table.entries) is own.counts;
      narrow = λ h inside. omega (arith, own.narrow h inside, c.share.ensures);
    }) c.over.ensures.table
