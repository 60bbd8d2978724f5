-- What a reader saw beside the writer.
use Rattle.std.specs.Prelude.{◌≡◌, ◌≤◌, ◌*◌, ℕ, List, [], ◌∷◌, length, take, min, All, ⊤}
use mathlib.Core.List.{IsPrefix}
use Rattle.log_levels.specs.declared.update.Update.{Update}
use Rattle.log_levels.specs.Maps.{map_after}
use Rattle.published.specs.Histories.{updates_of, count_of}
use Rattle.map_replay.specs.declared.question.Question.{Question}
use Rattle.map_replay.specs.declared.reading.Sighting.{Sighting}
use Rattle.map_replay.specs.declared.reading.Reading.{Reading}
use Rattle.map_replay.specs.Questions.{answer_of}

-- how many updates are published after some batches of this size: so many batches, or all
abbrev pub IsPublished : (batch count length : ℕ) → Type 0
IsPublished batch count length = (batches : ℕ) × (length ≡ min (batches * batch) count)

-- as many updates as the first so many of these batches have, each of them whole
abbrev pub EndsBatch : List (List Update) → (length : ℕ) → Type 0
EndsBatch batches length = (first : List (List Update)) × IsPrefix first batches × (length ≡ count_of first)

-- an answer for each question in turn, that of the map after the first so many updates
abbrev pub AreAnswers : List Update → List Question → List Sighting → Type 0
AreAnswers updates [] [] = ⊤
AreAnswers updates (question ∷ questions) (sighting ∷ sightings) =
    (sighting.answer ≡ answer_of (map_after (take sighting.length updates)) question)
    × AreAnswers updates questions sightings
AreAnswers updates questions sightings = ⊥

-- when it looked, a reader knew of no fewer updates than it saw before, and it saw no fewer than it knew of
abbrev pub NeverForgets : (before : ℕ) → List Sighting → Type 0
NeverForgets before [] = ⊤
NeverForgets before (sighting ∷ sightings) =
    (before ≤ sighting.known) × (sighting.known ≤ sighting.length) × NeverForgets sighting.length sightings

-- what a reader may see, where such are the numbers of updates that it may know of
-- and see: answers after so many updates, and none of what it saw or knew is lost
pub record IsReadingOf (IsLength : ℕ → Type 0)
    (updates : List Update) (questions : List Question) (sightings : List Sighting) : Type 0 where
  pub answers : AreAnswers updates questions sightings
  pub knew : All (λ (sighting : Sighting). IsLength sighting.known) sightings
  pub published : All (λ (sighting : Sighting). IsLength sighting.length) sightings
  pub never_forgets : NeverForgets 0 sightings

-- and at the end it saw all updates
pub record IsWholeReadingOf
    (IsLength : ℕ → Type 0) (updates : List Update) (questions : List Question) (reading : Reading) : Type 0 where
  pub beside : IsReadingOf IsLength updates questions reading.sightings.items
  pub last : reading.last ≡ length updates

-- the same beside updates that are published in batches of this size
abbrev pub IsWholeReading : List Update → (batch : ℕ) → List Question → Reading → Type 0
IsWholeReading updates batch = IsWholeReadingOf (IsPublished batch (length updates)) updates

-- the same beside updates that are published as they come, in these batches
abbrev pub IsWholeMixedReading : (batches : List (List Update)) → List Update → List Question → Reading → Type 0
IsWholeMixedReading batches = IsWholeReadingOf (EndsBatch batches)

-- updates that are published in their order, in batches of which none has more than so many
pub record AreCut (most : ℕ) (updates : List Update) (batches : List (List Update)) : Type 0 where
  pub whole : updates_of batches ≡ updates
  pub few : All (λ (batch : List Update). length batch ≤ most) batches

-- what a replay leaves: the batches that were published, and the updates after which
-- it answers; where senders sent them, their senders' numbers and the updates in
-- the order in which they came; and what each reader saw
pub record Outcome : Type 0 where
  pub batches : List (List Update)
  pub updates : List Update
  pub numbers : List ℕ
  pub mixed : List Update
  pub readings : List Reading
