-- A run's number is the entry of each bucket after that of the run before, up to its own.
use Rattle.std.proofs.Common.{◌≡◌, ◌+◌, ◌^◌, ℕ, length, subst, arith}
use Rattle.levels.specs.Indexes.{xs_at}
use Rattle.levels.proofs.CallerLemmas.{first_x-order}
use Rattle.radix_table.specs.Tables.{IsFilledTo}
use Rattle.bucketed.proofs.TableLemmas.{bucket-few, buckets-few, IsFilledUpTo, IsFilledUpTo-more, entries_all}
use Rattle.bucketed.proofs.table.table_of.Goals as goal

pub overflow_add-bucket : goal.overflow_add-bucket
overflow_add-bucket c =
    omega (
      arith,
      bucket-few c.args.bits c.first_x.result (omega (arith, c.requires.few)) c.first_x.type_inv,
      buckets-few c.args.bits c.requires.few,
    )

pub loop-run-preserved : goal.loop-run-preserved
loop-run-preserved c =
    let index = c.args.index.now in
    let runs = c.runs-runs.ensures in
    IsFilledUpTo-more c.args.bits (xs_at index.keys index.levels 1)
    c.loop-run.run c.first_x.result c.loop-run.table.items c.fill_to.new.entries.items
    (first_x-order index.keys index.eps index.eps_rec index.levels runs.never_falls runs.index) c.requires.few
    (omega (arith, runs.count, c.loop-run-test.true))
    c.first_x.ensures c.first_x.type_inv c.loop-run.invariant c.in_ok-fill_to.ensures

pub returns : goal.returns
returns c =
    let index = c.args.index.now in
    let xs = xs_at index.keys index.levels 1 in
    let bits = c.args.bits in
    let runs = c.runs-runs.ensures in
    let added = c.in_ok-fill_to-2.ensures in
    let few = buckets-few bits c.requires.few in
    let done : c.loop-run.run ≡ length xs = omega (arith, runs.count, c.loop-run-test.false, c.loop-run.auto.run-end) in
    let longer : IsFilledTo (2 ^ bits + 1) (length xs) c.loop-run.table.items c.fill_to-2.new.entries.items = record {
      before = added.before;
      added = λ k high less. omega (arith, added.added k high (omega (arith, few, less)), runs.count);
      grown = λ less. omega (arith, added.grown (omega (arith, few, less)), few);
      full = λ less. added.full (omega (arith, few, less));
    } in
    let all = entries_all bits xs c.loop-run.table.items c.fill_to-2.new.entries.items
    (subst (λ (n : ℕ). IsFilledUpTo bits xs n c.loop-run.table.items) done c.loop-run.invariant) longer in
    record { count = all.0; each = all.1 }
