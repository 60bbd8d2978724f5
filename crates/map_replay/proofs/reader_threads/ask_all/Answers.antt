use Rattle.std.proofs.Common.{◌+◌, ◌++◌, ◌∷◌, [], List, take, get_or, refl, sym, ap, subst, ◌∙◌, arith}
use Rattle.std.proofs.lemmas.List.{take_more}
use Rattle.log_levels.specs.Maps.{map_after}
use Rattle.published.specs.Histories.{Front, updates_of}
use Rattle.map_replay.specs.declared.question.Question.{Question}
use Rattle.map_replay.specs.declared.question.Question.TheVariants.{Get}
use Rattle.map_replay.specs.declared.reading.Sighting.{Sighting}
use Rattle.map_replay.specs.Watching.{WasAsked}
use Rattle.map_replay.proofs.WatchingLemmas.{asked_push}
use Rattle.map_replay.proofs.reader_threads.ask_all.Goals as goal

pub loop-turn-preserved : goal.loop-turn-preserved
loop-turn-preserved g c =
    let questions = c.args.questions.now in
    let turn = c.loop-turn.turn in
    let before = c.loop-turn.reader in
    let known = c.learn_newest.new.reader in
    let look = c.look_until-look.result in
    let sighting :
    Sighting = record { known = c.seen-known.result; length = c.seen.result; answer = c.answer.result } in
    let asked = asked_push before.batches known.batches look.batches
    (take turn questions) c.loop-turn.sightings.items (get_or questions turn (Get 0)) sighting
    c.learn_newest.ensures.seen c.look_until-look.ensures.shown c.seen-known.ensures c.seen.ensures
    (c.answer.ensures (map_after (updates_of look.batches)) refl) c.loop-turn.invariant.asked in
    record {
      own = ap (λ (r : Front). r.origin) c.leave-reader.ensures
          ∙ (c.look_until-look.ensures.own ∙ (c.learn_newest.ensures.own ∙ c.loop-turn.invariant.own));
      count = omega (arith, c.push_reserved.ensures.len, c.loop-turn.invariant.count);
      room = omega (arith, c.push_reserved.ensures.capacity, c.loop-turn.invariant.room);
      asked = subst (λ (r : Front). WasAsked r.batches (take (turn + 1) questions) c.push_reserved.new.self.items)
          (sym c.leave-reader.ensures)
          (subst (λ (s : List Sighting). WasAsked look.batches (take (turn + 1) questions) s)
          (sym c.push_reserved.ensures.items)
          (subst (λ (q : List Question). WasAsked look.batches q (c.loop-turn.sightings.items ++ sighting ∷ []))
          (sym (take_more questions turn (Get 0) (omega arith))) asked));
    }
