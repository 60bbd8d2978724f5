use Rattle.std.proofs.Common.{◌≡◌, ◌∙◌, ◌+◌, ◌-◌, ◌*◌, ◌<◌, ◌++◌, ℕ, List, length, take, drop, min, ap, sym, arith}
use Rattle.std.proofs.lemmas.List.{length-take, length-drop}
use Rattle.log_levels.specs.declared.update.Update.{Update}
use Rattle.log_levels.specs.Accepted.{entries_of}
use Rattle.published.specs.Histories.{updates_of}
use Rattle.published.specs.Writers.{Written}
use Rattle.published.proofs.CallerLemmas.{updates_of-snoc}
use Rattle.batches.proofs.BatchLemmas.{around, batch_more, batches_more, fewer_entries, first_begin, full_more}
use Rattle.batches.proofs.publishing.publish_all.Goals as goal

pub publish_batch-requires-clause-fits : goal.publish_batch-requires-clause-fits
publish_batch-requires-clause-fits g c =
    let updates = c.args.updates.now in
    let from = c.loop-number.number * c.args.plan.batch in
    let batch = take (c.min-to.result - from) (drop from updates) in
    let before : updates_of c.loop-number.writer.history
    ++ batch ≡ take from updates ++ batch = ap (λ (l : List Update). l ++ batch) c.loop-number.invariant.first in
    let fewer = fewer_entries (take from updates ++ batch) (drop (c.min-to.result - from) (drop from updates)) in
    let all = ap (λ (l : List Update). length (entries_of l)) (around from (c.min-to.result - from) updates) in
    omega (
      arith,
      ap (λ (l : List Update). length (entries_of l)) before,
      fewer,
      all,
      c.requires.fits,
      c.loop-number.invariant.same_map.capacity,
    )

pub loop-number-preserved : goal.loop-number-preserved
loop-number-preserved g c =
    let inv = c.loop-number.invariant in
    let updates = c.args.updates.now in
    let size = c.args.plan.batch in
    let from = c.loop-number.number * size in
    let batch = take (c.min-to.result - from) (drop from updates) in
    let history = c.loop-number.writer.history in
    let made = c.in_ok-publish_batch.ensures.published in
    let to_is : c.min-to.result ≡ min (length updates) (from + size) = omega arith in
    let there : from < length updates = grind arith in
    let next : (c.loop-number.number + 1) * size ≡ from + size = omega arith in
    let long : length batch ≡ c.min-to.result - from = omega
    (arith, length-take (c.min-to.result - from) (drop from updates), length-drop from updates, to_is, there) in
    rw made (record {
      same_map = record {
        origin = c.in_ok-publish_batch.ensures.same_map.origin ∙ inv.same_map.origin;
        capacity = c.in_ok-publish_batch.ensures.same_map.capacity ∙ inv.same_map.capacity;
      };
      none_staged = c.in_ok-publish_batch.ensures.none_staged;
      first = updates_of-snoc history batch ∙ (ap (λ (l : List Update). l ++ batch) inv.first
          ∙ sym (ap (λ (n : ℕ). take n updates) next
          ∙ batch_more from size c.min-to.result updates (omega (arith, there)) to_is));
      batches = batches_more size history batch
          (inv.full (omega (arith, there))) (omega (arith, long, to_is, there, c.args.plan.some_updates))
          (omega (arith, long, to_is));
      full = λ more.
          full_more size history batch (inv.full (omega (arith, there))) (omega (arith, long, to_is, next, more));
    })

-- what is published is what stood before the loop's end, or before the batch that was refused
pub returns-clause-begins : goal.returns-clause-begins
returns-clause-begins g c =
    first_begin (c.loop-number.number * c.args.plan.batch) c.args.updates.now
    (updates_of c.loop-number.writer.history) c.loop-number.invariant.first

pub returns-in_err-publish_batch-clause-begins : goal.returns-in_err-publish_batch-clause-begins
returns-in_err-publish_batch-clause-begins g c =
    first_begin
    (c.loop-number.number * c.args.plan.batch) c.args.updates.now (updates_of c.publish_batch.new.writer.history)
    (ap (λ (w : Written). updates_of w.history) c.in_err-publish_batch.ensures.unchanged
    ∙ c.loop-number.invariant.first)
