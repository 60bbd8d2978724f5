use Rattle.std.proofs.Common.{◌≡◌, ◌∙◌, ◌++◌, ◌∷◌, [], List, Some, length, ap, refl, subst, arith}
use Rattle.std.proofs.lemmas.List.Elements.{All-nil, All-pop, All-push, All-same}
use mathlib.Core.List.{IsPrefix}
use Rattle.log_levels.specs.declared.update.Update.{Update}
use Rattle.published.specs.Histories.{count_of}
use Rattle.published.specs.Writers.{Written}
use Rattle.map_replay.specs.declared.question.Question.{Question}
use Rattle.map_replay.specs.declared.reading.Reading.{Reading}
use Rattle.map_replay.specs.Watching.{WasAsked}
use Rattle.map_replay.specs.ReaderStates.{HasAsked, HasSeen}
use Rattle.map_replay.proofs.WatchingLemmas.{asked_more}
use Rattle.map_replay.proofs.last_looks.take_last_looks.Goals as goal

-- a reader whose last look begins with the history and is as long
module _ (history note before look : List (List Update))
    (told_is : note ≡ history) (seen : IsPrefix before look) (told : IsPrefix note look)
    (long : count_of look ≡ count_of note) where
  begins : IsPrefix history look
  begins = subst (λ (h : List (List Update)). IsPrefix h look) told_is told

  same : count_of look ≡ count_of history
  same = long ∙ ap count_of told_is

  has_seen : (reading : Reading) →
      reading.last ≡ count_of look → (questions : List Question) → WasAsked before questions reading.sightings.items →
      HasSeen history questions reading
  has_seen reading last_is questions asked = record {
    shown = look;
    begins = begins;
    same = same;
    asked = asked_more before look seen questions reading.sightings.items asked;
    last = last_is ∙ same;
  }

pub loop-next-init : goal.loop-next-init
loop-next-init g c =
    let reading : Reading = record { sightings = c.in-Some.first.sightings; last = c.seen-last.result } in
    let history = c.args.writer.now.history in
    record {
      same = refl;
      count =
          omega (
            arith,
            c.in-Some.ensures.cases,
            c.push_reserved.ensures.len,
            c.args.readings.ok.0,
            ap (λ l. length l) c.requires.none,
          );
      room = omega (arith, c.requires.room, c.push_reserved.ensures.capacity);
      left = λ questions all.
          (All-pop (HasAsked questions) c.args.finished.items c.pop.new.self.items
          (Some c.in-Some.first) c.in-Some.ensures.items all).0;
      each = λ questions asked.
          let one = (All-pop (HasAsked questions) c.args.finished.items c.pop.new.self.items
          (Some c.in-Some.first) c.in-Some.ensures.items asked).1 in
          let whole = has_seen history
          c.tell.result.batches c.in-Some.first.reader.batches c.last_look-look.result.batches c.tell.ensures.told
          c.last_look-look.ensures.seen
          c.last_look-look.ensures.told c.last_look-look.ensures.length reading c.seen-last.ensures questions one in
          All-same (HasSeen history questions) c.push_reserved.new.self.items
          (c.args.readings.items ++ reading ∷ []) c.push_reserved.ensures.items
          (All-push (HasSeen history questions) c.args.readings.items reading
          (All-same (HasSeen history questions) c.args.readings.items [] c.requires.none (All-nil _)) whole);
    }

pub loop-next-preserved : goal.loop-next-preserved
loop-next-preserved g c =
    let inv = c.loop-next.invariant in
    let next = c.in-Some-pop.next in
    let reading : Reading = record { sightings = next.sightings; last = c.seen-last-in-Some-pop.result } in
    let history = c.args.writer.now.history in
    let told_is = c.tell-in-Some-pop.ensures.told ∙ ap (λ (w : Written). w.history) (inv.same ∙ c.tell.ensures.same) in
    record {
      same = c.tell-in-Some-pop.ensures.same ∙ inv.same;
      count = omega (arith, inv.count, c.in-Some-pop.ensures.cases, c.push_reserved-in-Some-pop.ensures.len);
      room = omega (arith, inv.room, c.push_reserved-in-Some-pop.ensures.capacity);
      left = λ questions all.
          (All-pop (HasAsked questions) c.loop-next.finished.items c.pop-in-loop-next.new.self.items
          (Some next) c.in-Some-pop.ensures.items (inv.left questions all)).0;
      each = λ questions asked.
          let mine = (All-pop (HasAsked questions) c.loop-next.finished.items c.pop-in-loop-next.new.self.items
          (Some next) c.in-Some-pop.ensures.items
          (inv.left questions asked)).1 in
          let whole = has_seen
          history c.tell-in-Some-pop.result.batches next.reader.batches c.last_look-other.result.batches told_is
          c.last_look-other.ensures.seen c.last_look-other.ensures.told
          c.last_look-other.ensures.length reading c.seen-last-in-Some-pop.ensures questions
          mine in
          All-same (HasSeen history questions) c.push_reserved-in-Some-pop.new.self.items
          (c.loop-next.readings.items ++ reading ∷ [])
          c.push_reserved-in-Some-pop.ensures.items
          (All-push (HasSeen history questions) c.loop-next.readings.items reading (inv.each questions asked) whole);
    }

pub returns : goal.returns
returns g c = λ questions asked.
    let inv = c.loop-next.invariant in
    let look = c.last_look-look in
    let history = c.args.writer.now.history in
    record {
      shown = begins history c.tell.result.batches c.in-Some.first.reader.batches
          look.result.batches c.tell.ensures.told look.ensures.seen look.ensures.told look.ensures.length;
      whole = same history c.tell.result.batches c.in-Some.first.reader.batches
          look.result.batches c.tell.ensures.told look.ensures.seen look.ensures.told look.ensures.length;
      count = omega (arith, inv.count, c.in_default-pop.ensures.cases, c.loop-next.readings.ok.0);
      each = inv.each questions asked;
    }
