-- What a reader was answered, as it goes on.
use Rattle.std.proofs.Common.{◌≡◌, ◌≤◌, ◌++◌, ◌∷◌, [], ℕ, List, arith}
use Rattle.std.specs.Prelude.{All}
use Rattle.std.proofs.lemmas.List.Elements.{All-head, All-push, All-tail, All-weaker}
use mathlib.Core.List.{IsPrefix}
use Rattle.log_levels.specs.declared.update.Update.{Update}
use Rattle.log_levels.specs.Maps.{map_after}
use Rattle.published.specs.Histories.{updates_of, count_of}
use Rattle.published.proofs.CallerLemmas.{prefix_self, prefix_trans, prefix_count}
use Rattle.map_replay.specs.declared.question.Question.{Question}
use Rattle.map_replay.specs.declared.reading.Sighting.{Sighting}
use Rattle.map_replay.specs.Questions.{answer_of}
use Rattle.map_replay.specs.Readings.{EndsBatch, NeverForgets}
use Rattle.map_replay.specs.Watching.{IsSeen, AreSeen, WasAsked}

-- what was seen in fewer batches was seen in more
module _ (batches more : List (List Update)) (begins : IsPrefix batches more) where
  seen_more : (question : Question) (sighting : Sighting) →
      IsSeen batches question sighting → IsSeen more question sighting
  seen_more question sighting ((first, before, known_is), (prefix, starts, length_is, answer_is)) = (
    (first, prefix_trans first batches more before begins, known_is),
    (prefix, prefix_trans prefix batches more starts begins, length_is, answer_is),
  )

  all_seen_more : (questions : List Question) (sightings : List Sighting) →
      AreSeen batches questions sightings → AreSeen more questions sightings
  all_seen_more [] [] seen = tt
  all_seen_more [] (s ∷ sightings) seen = seen
  all_seen_more (q ∷ questions) [] seen = seen
  all_seen_more (q ∷ questions) (s ∷ sightings) seen = (seen_more q s seen.0, all_seen_more questions sightings seen.1)

  pub asked_more : (questions : List Question) (sightings : List Sighting) →
      WasAsked batches questions sightings → WasAsked more questions sightings
  asked_more questions sightings asked = record {
    seen = all_seen_more questions sightings asked.seen;
    never_forgets = asked.never_forgets;
    known = All-weaker (λ (s : Sighting). s.length ≤ count_of batches) (λ (s : Sighting). s.length ≤ count_of more)
        (λ s few. omega (arith, few, prefix_count batches more begins)) sightings asked.known;
  }

-- one more answer
seen_push : (batches : List (List Update))
    (questions : List Question) (sightings : List Sighting) (question : Question) (sighting : Sighting) →
    AreSeen batches questions sightings →
    IsSeen batches question sighting → AreSeen batches (questions ++ question ∷ []) (sightings ++ sighting ∷ [])
seen_push batches [] [] question sighting seen one = (one, tt)
seen_push batches [] (s ∷ sightings) question sighting seen one = absurd seen
seen_push batches (q ∷ questions) [] question sighting seen one = absurd seen
seen_push batches (q ∷ questions) (s ∷ sightings) question sighting seen one =
    (seen.0, seen_push batches questions sightings question sighting seen.1 one)

-- one that knew no fewer than all that were seen before it
remembered_push : (before : ℕ) (sightings : List Sighting) (sighting : Sighting) →
    before ≤ sighting.known → sighting.known ≤ sighting.length →
    All (λ (s : Sighting). s.length ≤ sighting.known) sightings →
    NeverForgets before sightings → NeverForgets before (sightings ++ sighting ∷ [])
remembered_push before [] sighting some more all so_far = (some, more, tt)
remembered_push before (s ∷ sightings) sighting some more all so_far = (
  so_far.0,
  so_far.1,
  remembered_push s.length sightings sighting
      (All-head (λ (s : Sighting). s.length ≤ sighting.known) s sightings all) more
      (All-tail (λ (s : Sighting). s.length ≤ sighting.known) s sightings all) so_far.2,
)

-- a look that begins with what was known, which begins with what was known before
pub asked_push : (before known shown : List (List Update))
    (questions : List Question) (sightings : List Sighting) (question : Question) (sighting : Sighting) →
    IsPrefix before known → IsPrefix known shown → sighting.known ≡ count_of known → sighting.length ≡ count_of shown →
    sighting.answer ≡ answer_of (map_after (updates_of shown)) question →
    WasAsked before questions sightings → WasAsked shown (questions ++ question ∷ []) (sightings ++ sighting ∷ [])
asked_push before known shown questions sightings question sighting learns begins known_is length_is answer_is asked =
    let at_known = asked_more before known learns questions sightings asked in
    let at_shown = asked_more known shown begins questions sightings at_known in
    record {
      seen = seen_push shown questions sightings question sighting at_shown.seen
          ((known, begins, known_is), (shown, prefix_self shown, length_is, answer_is));
      never_forgets = remembered_push 0 sightings sighting
          (omega arith) (omega (arith, known_is, length_is, prefix_count known shown begins))
          (All-weaker (λ (s : Sighting). s.length ≤ count_of known) (λ (s : Sighting). s.length ≤ sighting.known)
          (λ s few. omega (arith, few, known_is)) sightings at_known.known)
          asked.never_forgets;
      known = All-push
          (λ (s : Sighting). s.length ≤ count_of shown) sightings sighting at_shown.known (omega (arith, length_is));
    }
