-- What prefixes of batches show.
use Rattle.std.proofs.Common.{◌≡◌, ◌≤◌, ◌+◌, ◌++◌, ◌∷◌, [], ℕ, List, length, take}
use Rattle.std.proofs.Common.{ap, sym, refl, ◌∙◌, subst, arith, length-append}
use Rattle.std.specs.Prelude.{All}
use Rattle.std.proofs.lemmas.List.Elements.{All-nil, All-cons, All-head, All-tail}
use mathlib.Core.List.{IsPrefix}
use Rattle.log_levels.specs.declared.update.Update.{Update}
use Rattle.log_levels.specs.Maps.{map_after}
use Rattle.published.specs.Histories.{updates_of, count_of}
use Rattle.published.proofs.CallerLemmas.{prefix_count, prefix_trans, updates_of-append, count_of-append}
use Rattle.map_replay.specs.declared.question.Question.{Question}
use Rattle.map_replay.specs.declared.reading.Sighting.{Sighting}
use Rattle.map_replay.specs.declared.reading.Reading.{Reading}
use Rattle.map_replay.specs.ReaderStates.{HasSeen}
use Rattle.map_replay.specs.Questions.{answer_of}
use Rattle.map_replay.specs.Readings.{AreCut, EndsBatch, IsPublished, AreAnswers, IsReadingOf}
use Rattle.map_replay.specs.Readings.{IsWholeReading, IsWholeReadingOf, IsWholeMixedReading}
use Rattle.batches.specs.Batches.{AreBatches}
use Rattle.map_replay.specs.Watching.{IsSeen, AreSeen, WasAsked}

count_of-cons : (batch : List Update) (batches : List (List Update)) →
    count_of (batch ∷ batches) ≡ length batch + count_of batches
count_of-cons batch batches = length-append batch (updates_of batches)

-- as many updates as some batches have
published_more : (size before count length_after : ℕ) →
    IsPublished size count length_after → before ≡ size → IsPublished size (before + count) (before + length_after)
published_more size before count n (batches, is) same = (batches + 1, omega (arith, is, same))

-- what a prefix of batches has, where it is seen in a history that has no more updates than they
pub prefix_published : (size : ℕ) (history shown prefix : List (List Update)) →
    AreBatches size history → IsPrefix history shown →
    count_of shown ≡ count_of history → IsPrefix prefix shown → IsPublished size (count_of history) (count_of prefix)
prefix_published size history shown [] batches begins same starts = (0, omega arith)
prefix_published size [] shown (b ∷ prefix) batches begins same starts =
    (0, omega (arith, same, prefix_count (b ∷ prefix) shown starts))
prefix_published size (h ∷ history) [] (b ∷ prefix) batches begins same starts = absurd (cc (starts.1))
prefix_published size (h ∷ []) (s ∷ shown) (b ∷ prefix) batches begins same starts =
    let heads : h ≡ s = cc (begins.1) in
    let first : b ≡ s = cc (starts.1) in
    let long : length h ≡ length s = ap (λ (l : List Update). length l) heads in
    let long_b : length b ≡ length s = ap (λ (l : List Update). length l) first in
    let rest = prefix_count prefix shown (starts.0, cc (starts.1)) in (
      1,
      omega (
        arith,
        same,
        long,
        long_b,
        batches.0,
        batches.1,
        rest,
        count_of-cons h [],
        count_of-cons s shown,
        count_of-cons b prefix,
      ),
    )
prefix_published size (h ∷ g ∷ history) (s ∷ shown) (b ∷ prefix) batches begins same starts =
    let heads : h ≡ s = cc (begins.1) in
    let first : b ≡ s = cc (starts.1) in
    let long : length h ≡ length s = ap (λ (l : List Update). length l) heads in
    let long_b : length b ≡ length s = ap (λ (l : List Update). length l) first in
    let later = prefix_published size (g ∷ history) shown prefix batches.1 (begins.0, cc (begins.1))
    (omega (arith, same, long, count_of-cons h (g ∷ history), count_of-cons s shown)) (starts.0, cc (starts.1)) in
    subst (λ (n : ℕ). IsPublished size n (count_of (b ∷ prefix))) (sym (count_of-cons h (g ∷ history)))
    (subst (λ (n : ℕ). IsPublished size (length h + count_of (g ∷ history)) n)
    (omega (arith, long, long_b, count_of-cons b prefix))
    (published_more size (length h) (count_of (g ∷ history)) (count_of prefix) later batches.0))

-- whole batches, behind one more
ends_behind : (batch : List Update) (batches : List (List Update)) (n : ℕ) →
    EndsBatch batches n → EndsBatch (batch ∷ batches) (length batch + n)
ends_behind batch batches n (first, (rest, split), is) = (
  batch ∷ first,
  (rest, ap (λ (l : List (List Update)). batch ∷ l) split),
  omega (arith, is, count_of-cons batch first),
)

-- and some of the history have as many
pub prefix_ends : (history shown prefix : List (List Update)) →
    IsPrefix history shown → count_of shown ≡ count_of history → IsPrefix prefix shown →
    EndsBatch history (count_of prefix)
prefix_ends history shown [] begins same starts = ([], (history, refl), refl)
prefix_ends [] shown (b ∷ prefix) begins same starts =
    ([], ([], refl), omega (arith, same, prefix_count (b ∷ prefix) shown starts))
prefix_ends (h ∷ history) [] (b ∷ prefix) begins same starts = absurd (cc (starts.1))
prefix_ends (h ∷ history) (s ∷ shown) (b ∷ prefix) begins same starts =
    let heads : h ≡ s = cc (begins.1) in
    let first : b ≡ s = cc (starts.1) in
    let long : length h ≡ length s = ap (λ (l : List Update). length l) heads in
    let long_b : length b ≡ length s = ap (λ (l : List Update). length l) first in
    let later = prefix_ends history shown prefix (begins.0, cc (begins.1))
    (omega (arith, same, long, count_of-cons h history, count_of-cons s shown)) (starts.0, cc (starts.1)) in
    subst (EndsBatch (h ∷ history))
    (omega (arith, long, long_b, count_of-cons b prefix)) (ends_behind h history (count_of prefix) later)

-- what ends a batch of these ends one of more
pub ends_more : (batches more : List (List Update)) (n : ℕ) →
    IsPrefix batches more → EndsBatch batches n → EndsBatch more n
ends_more batches more n begins (first, before, is) = (first, prefix_trans first batches more before begins, is)

-- and has no more updates than all of them
pub ends_within : (most : ℕ) (updates : List Update) (batches : List (List Update)) (n : ℕ) →
    AreCut most updates batches → EndsBatch batches n → n ≤ length updates
ends_within most updates batches n cut (first, before, is) =
    omega (arith, is, prefix_count first batches before, ap (λ (l : List Update). length l) cut.whole)

-- the first updates of a list
take-prefix : (xs ys : List Update) → take (length xs) (xs ++ ys) ≡ xs
take-prefix [] ys = refl
take-prefix (x ∷ xs) ys = ap (λ (l : List Update). x ∷ l) (take-prefix xs ys)

-- the updates of a prefix are the first ones
pub prefix_first : (prefix shown : List (List Update)) →
    IsPrefix prefix shown → take (count_of prefix) (updates_of shown) ≡ updates_of prefix
prefix_first prefix shown starts =
    ap (λ (l : List Update). take (count_of prefix) l)
    (sym (ap updates_of starts.1) ∙ updates_of-append prefix starts.0)
    ∙ take-prefix (updates_of prefix) (updates_of starts.0)

no_update : (xs : List Update) → length xs ≡ 0 → xs ≡ []
no_update [] none = refl
no_update (x ∷ xs) none = absurd (omega (arith, none))

append_nil : (xs : List Update) → xs ++ [] ≡ xs
append_nil [] = refl
append_nil (x ∷ xs) = ap (λ (l : List Update). x ∷ l) (append_nil xs)

-- one list begins with the other and has no more updates: they have the same ones
pub same_updates : (history shown : List (List Update)) →
    IsPrefix history shown → count_of shown ≡ count_of history → updates_of shown ≡ updates_of history
same_updates history shown begins same =
    let split = sym (ap updates_of begins.1) ∙ updates_of-append history begins.0 in
    let none = no_update (updates_of begins.0)
    (omega (
      arith,
      same,
      ap (λ (l : List Update). length l) split,
      length-append (updates_of history) (updates_of begins.0),
    )) in
    split ∙ ap (λ (l : List Update). updates_of history ++ l) none ∙ append_nil (updates_of history)

-- batches of no more updates than so many, and some that have none
few_more : (most : ℕ) (xs ys : List (List Update)) → All (λ (batch : List Update). length batch ≤ most) xs →
    count_of ys ≡ 0 → All (λ (batch : List Update). length batch ≤ most) (xs ++ ys)
few_more most [] [] few none = few
few_more most [] (y ∷ ys) few none =
    All-cons (λ (batch : List Update). length batch ≤ most) y ys
    (omega (arith, none, count_of-cons y ys)) (few_more most [] ys few (omega (arith, none, count_of-cons y ys)))
few_more most (x ∷ xs) ys few none =
    All-cons (λ (batch : List Update). length batch ≤ most) x
    (xs ++ ys) (All-head (λ (batch : List Update). length batch ≤ most) x xs few)
    (few_more most xs ys (All-tail (λ (batch : List Update). length batch ≤ most) x xs few) none)

-- what begins with these batches and has no more updates is cut in the same way
pub cut_shown : (most : ℕ) (updates : List Update) (history shown : List (List Update)) →
    AreCut most updates history → IsPrefix history shown →
    count_of shown ≡ count_of history → AreCut most updates shown
cut_shown most updates history shown cut begins same =
    let none : count_of begins.0 ≡ 0 = omega (arith, same, ap count_of begins.1, count_of-append history begins.0) in
    record {
      whole = same_updates history shown begins same ∙ cut.whole;
      few = subst
          (All (λ (batch : List Update). length batch ≤ most)) begins.1 (few_more most history begins.0 cut.few none);
    }

-- what was seen in a history that has the updates is a reading of them
module _ (updates : List Update)
    (history shown : List (List Update)) (all : updates_of history ≡ updates) (begins : IsPrefix history shown)
    (same : count_of shown ≡ count_of history) (IsLength : ℕ → Type 0)
    (lengths : (prefix : List (List Update)) → IsPrefix prefix shown → IsLength (count_of prefix)) where
  one_known : (question : Question) (sighting : Sighting) → IsSeen shown question sighting → IsLength sighting.known
  one_known question sighting ((first, before, known_is), seen) = subst IsLength (sym known_is) (lengths first before)

  one_length : (question : Question) (sighting : Sighting) → IsSeen shown question sighting → IsLength sighting.length
  one_length question sighting (knew, (prefix, starts, length_is, answer_is)) =
      subst IsLength (sym length_is) (lengths prefix starts)

  one_answer : (question : Question) (sighting : Sighting) → IsSeen shown question sighting →
      sighting.answer ≡ answer_of (map_after (take sighting.length updates)) question
  one_answer question sighting (knew, (prefix, starts, length_is, answer_is)) =
      let first : take sighting.length updates ≡ updates_of prefix =
      ap (λ (n : ℕ). take n updates) length_is
      ∙ ap (λ (l : List Update). take (count_of prefix) l) (sym (same_updates history shown begins same ∙ all))
      ∙ prefix_first prefix shown starts in
      answer_is ∙ ap (λ (l : List Update). answer_of (map_after l) question) (sym first)

  -- what holds of each one that was seen
  all_seen : (Holds : Sighting → Type 0) →
      ((question : Question) (sighting : Sighting) → IsSeen shown question sighting → Holds sighting) →
      (questions : List Question) (sightings : List Sighting) →
      AreSeen shown questions sightings → All Holds sightings
  all_seen Holds holds [] [] seen = All-nil _
  all_seen Holds holds [] (s ∷ sightings) seen = absurd seen
  all_seen Holds holds (q ∷ questions) [] seen = absurd seen
  all_seen Holds holds (q ∷ questions) (s ∷ sightings) seen =
      All-cons Holds s sightings (holds q s seen.0) (all_seen Holds holds questions sightings seen.1)

  all_answers : (questions : List Question) (sightings : List Sighting) →
      AreSeen shown questions sightings → AreAnswers updates questions sightings
  all_answers [] [] seen = tt
  all_answers [] (s ∷ sightings) seen = seen
  all_answers (q ∷ questions) [] seen = seen
  all_answers (q ∷ questions) (s ∷ sightings) seen = (one_answer q s seen.0, all_answers questions sightings seen.1)

  is_reading : (questions : List Question) (sightings : List Sighting) →
      WasAsked shown questions sightings → IsReadingOf IsLength updates questions sightings
  is_reading questions sightings asked = record {
    answers = all_answers questions sightings asked.seen;
    knew = all_seen (λ (sighting : Sighting). IsLength sighting.known) one_known questions sightings asked.seen;
    published = all_seen (λ (sighting : Sighting). IsLength sighting.length) one_length questions sightings asked.seen;
    never_forgets = asked.never_forgets;
  }

-- a reader that saw all that is published
module _ (updates : List Update)
    (history : List (List Update)) (all : updates_of history ≡ updates) (questions : List Question) where
  whole_reading : (IsLength : ℕ → Type 0) →
      ((shown prefix : List (List Update)) →
      IsPrefix history shown → count_of shown ≡ count_of history → IsPrefix prefix shown →
      IsLength (count_of prefix)) →
      (reading : Reading) → HasSeen history questions reading → IsWholeReadingOf IsLength updates questions reading
  whole_reading IsLength lengths reading has = record {
    beside = is_reading updates history has.shown all has.begins has.same IsLength
        (λ prefix starts. lengths has.shown prefix has.begins has.same starts) questions
        reading.sightings.items has.asked;
    last = has.last ∙ ap (λ (l : List Update). length l) all;
  }

  pub whole_in_batches : (size : ℕ) → AreBatches size history →
      (reading : Reading) → HasSeen history questions reading → IsWholeReading updates size questions reading
  whole_in_batches size batches =
      whole_reading (IsPublished size (length updates)) (λ shown prefix begins same starts.
      subst (λ (n : ℕ). IsPublished size n (count_of prefix)) (ap (λ (l : List Update). length l) all)
      (prefix_published size history shown prefix batches begins same starts))

  pub whole_as_they_came : (batches : List (List Update)) →
      IsPrefix history batches → (reading : Reading) → HasSeen history questions reading →
      IsWholeMixedReading batches updates questions reading
  whole_as_they_came batches begin =
      whole_reading (EndsBatch batches) (λ shown prefix begins same starts.
      ends_more history batches (count_of prefix) begin (prefix_ends history shown prefix begins same starts))
