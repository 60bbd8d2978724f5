-- What a reader was answered, by what it knows of the history. No public clause cites it.
use Rattle.std.specs.Prelude.{◌≡◌, ◌≤◌, ◌∷◌, [], List, All, ⊤}
use mathlib.Core.List.{IsPrefix}
use Rattle.log_levels.specs.declared.update.Update.{Update}
use Rattle.log_levels.specs.Maps.{map_after}
use Rattle.published.specs.Histories.{updates_of, count_of}
use Rattle.map_replay.specs.declared.question.Question.{Question}
use Rattle.map_replay.specs.declared.reading.Sighting.{Sighting}
use Rattle.map_replay.specs.Questions.{answer_of}
use Rattle.map_replay.specs.Readings.{EndsBatch, NeverForgets}

-- an answer of the map after a prefix of these batches, by a reader that knew a prefix of them
abbrev pub IsSeen : List (List Update) → Question → Sighting → Type 0
IsSeen batches question sighting = EndsBatch batches sighting.known
    × ((prefix : List (List Update)) × IsPrefix prefix batches × (sighting.length ≡ count_of prefix)
    × (sighting.answer ≡ answer_of (map_after (updates_of prefix)) question))

-- for each question in turn
abbrev pub AreSeen : List (List Update) → List Question → List Sighting → Type 0
AreSeen batches [] [] = ⊤
AreSeen batches (question ∷ questions) (sighting ∷ sightings) =
    IsSeen batches question sighting × AreSeen batches questions sightings
AreSeen batches questions sightings = ⊥

-- these questions were asked in turn, by a reader that knows these batches
pub record WasAsked (batches : List (List Update)) (questions : List Question) (sightings : List Sighting) :
    Type 0 where
  pub seen : AreSeen batches questions sightings
  pub never_forgets : NeverForgets 0 sightings
  pub known : All (λ (sighting : Sighting). sighting.length ≤ count_of batches) sightings
