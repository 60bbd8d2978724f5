-- What is published with the batch that was taken is all that was taken.
use Rattle.std.proofs.Common.{◌≡◌, ◌-◌, ◌≤◌, ◌++◌, [], ℕ, List, true, Result, Ok, Err}
use Rattle.std.proofs.Common.{OnOk, is_ok, length, take, drop, ap, sym, subst, ◌∙◌, arith}
use Rattle.std.proofs.lemmas.Bool.{false≢true}
use Rattle.std.proofs.lemmas.List.{append-nil, drop_all, length-drop, length-map, length-take}
use Rattle.std.proofs.lemmas.List.Elements.{All-push}
use Rattle.std.proofs.lemmas.Result.{on_ok_weaker}
use Rattle.log_levels.specs.declared.update.Update.{Update}
use Rattle.log_levels.specs.Accepted.{entries_of}
use Rattle.published.specs.Histories.{updates_of}
use Rattle.published.proofs.CallerLemmas.{updates_of-snoc}
use Rattle.senders.specs.Senders.{Origin}
use Rattle.map_replay.specs.SenderStates.{AreStarted}
use Rattle.map_replay.specs.Readings.{AreCut}
use Rattle.batches.proofs.BatchLemmas.{around}
use Rattle.map_replay.proofs.MixLemmas.{plain_entries}
use Rattle.map_replay.proofs.sender_threads.publish_arriving.Goals as goal

where_ok : {T E P : Type 0} (r : Result T E) → is_ok r ≡ true → OnOk r P → P
where_ok (Ok x) ok holds = holds
where_ok (Err e) ok holds = absurd (false≢true ok)

-- the batch behind what is published, where the items are read from
whole : (published before after items : List Update) (from : ℕ) →
    published ≡ before → items ≡ after → take from after ≡ before →
    published ++ take (length items - from) (drop from items) ≡ after
whole published before after items from same is begins =
    let m = length items - from in
    let batch = take m (drop from items) in
    let none : drop m (drop from items) ≡ [] = drop_all m (drop from items) (omega (arith, length-drop from items)) in
    let first : published ≡ take from items = same ∙ (sym begins ∙ sym (ap (λ (l : List Update). take from l) is)) in
    ap (λ (l : List Update). l ++ batch) first
    ∙ (sym (append-nil (take from items ++ batch))
    ∙ (ap (λ (l : List Update). (take from items ++ batch) ++ l) (sym none) ∙ (around from m items ∙ is)))

pub publish_batch-published-requires-clause-fits : goal.publish_batch-published-requires-clause-fits
publish_batch-published-requires-clause-fits g c κs within =
    let inv = c.loop-rt.invariant in
    let after = c.take_batch.new.intake.arrivals.updates.items in
    let items = c.deref.result.now in
    let from = c.len-from.result in
    let from_is : from
    ≡ length c.loop-rt.intake.arrivals.updates.items = omega (arith, c.loop-rt.intake.arrivals.updates.ok.0) in
    let begins = subst (λ (n : ℕ). take n after ≡ c.loop-rt.intake.arrivals.updates.items)
    (sym from_is) c.take_batch.ensures.took.begins in
    let same = where_ok c.loop-rt.published (sym c.is_ok.ensures.value ∙ c.if-is_ok.true) inv.published in
    let all = whole (updates_of c.loop-rt.writer.history)
    c.loop-rt.intake.arrivals.updates.items after items from same.whole c.deref.ensures.value begins in
    let plain = plain_entries after c.take_batch.ensures.intake.plain in
    let few : length after ≤ length c.args.assignment.updates.now = omega (
      arith,
      c.take_batch.ensures.intake.within,
      ap (λ (l : List Update). length l) c.take_batch.ensures.intake.updates
          ∙ length-map c.take_batch.new.intake.inbox.taken (λ item. item.1),
    ) in
    omega (
      arith,
      ap (λ (l : List Update). length (entries_of l)) all,
      plain,
      few,
      c.requires.ready.fits,
      inv.same_map.capacity,
    )

pub loop-rt-preserved-then-is_ok : goal.loop-rt-preserved-then-is_ok
loop-rt-preserved-then-is_ok g c =
    let inv = c.loop-rt.invariant in
    let after = c.take_batch.new.intake.arrivals.updates.items in
    let items = c.deref.result.now in
    let from = c.len-from.result in
    let history = c.loop-rt.writer.history in
    let batch = take (length items - from) (drop from items) in
    let from_is : from
    ≡ length c.loop-rt.intake.arrivals.updates.items = omega (arith, c.loop-rt.intake.arrivals.updates.ok.0) in
    let begins = subst (λ (n : ℕ). take n after ≡ c.loop-rt.intake.arrivals.updates.items)
    (sym from_is) c.take_batch.ensures.took.begins in
    let same = where_ok c.loop-rt.published (sym c.is_ok.ensures.value ∙ c.if-is_ok.true) inv.published in
    let all = whole (updates_of history)
    c.loop-rt.intake.arrivals.updates.items after items from same.whole c.deref.ensures.value begins in
    let made = c.publish_batch-published.ensures in
    let few : length batch ≤ c.args.plan.batch =
    omega (
      arith,
      length-take (length items - from) (drop from items),
      length-drop from items,
      ap (λ (l : List Update). length l) c.deref.ensures.value,
      c.take_batch.ensures.took.few,
      from_is,
    ) in
    record {
      same_map = record {
        origin = made.same_map.origin ∙ inv.same_map.origin;
        capacity = made.same_map.capacity ∙ inv.same_map.capacity;
      };
      origin = c.take_batch.ensures.took.own ∙ inv.origin;
      intake = c.take_batch.ensures.intake;
      started = subst (λ (o : Origin). AreStarted o c.args.assignment c.take_batch.new.started.items)
          inv.origin c.take_batch.ensures.started;
      count = c.take_batch.ensures.count ∙ inv.count;
      number = omega (arith, inv.number, c.take_batch.ensures.took.more);
      staged = made.none_staged;
      published = on_ok_weaker c.publish_batch-published.result
          (λ is. subst (AreCut c.args.plan.batch after) (sym is) (record {
            whole = updates_of-snoc history batch ∙ all;
            few = All-push (λ (batch : List Update). length batch ≤ c.args.plan.batch) history batch same.few few;
          })) made.published;
    }
