-- The table's two entries are the runs in lower buckets, and those in this one too.
use Rattle.std.proofs.Common.{◌≡◌, ◌+◌, ◌-◌, ◌/◌, ◌^◌, ℕ, ap, ◌∙◌}
use Rattle.levels.specs.Indexes.{xs_at}
use Rattle.levels.proofs.CallerLemmas.{first_x-order}
use Rattle.bucketed.specs.Tables.{bucket_of, entry_at}
use Rattle.bucketed.proofs.TableLemmas.{IsBetween-bucket, order_of}
use Rattle.bucketed.proofs.buckets.Buckets.begun_between.Goals as goal

pub returns-clause-between : goal.returns-clause-between
returns-clause-between c =
    let index = c.args.self.now.index in
    let value = c.index.result.now in
    let own = c.args.self.now.bits in
    let runs = c.runs-runs.ensures in
    let order = order_of index value c.index.ensures
    (first_x-order value.keys value.eps value.eps_rec value.levels runs.never_falls runs.index) in
    let bucket : c.args.q / 2 ^ (64 - c.bits.result)
    ≡ bucket_of own c.args.q = ap (λ (b : ℕ). c.args.q / 2 ^ (64 - b)) c.bits.ensures.bits in
    IsBetween-bucket own (xs_at index.keys index.levels 1) c.args.q c.entry.result c.entry-2.result order
    (c.entry.ensures ∙ ap (entry_at index own) bucket)
    (c.entry-2.ensures ∙ ap (λ (h : ℕ). entry_at index own (h + 1)) bucket)
