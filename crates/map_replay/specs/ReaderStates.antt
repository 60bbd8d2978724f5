-- The readers, before they start, on their way and when they are done. No public clause cites it.
use Rattle.std.specs.Prelude.{◌≡◌, ◌≤◌, ℕ, List, [], All, length, vec_len, vec_capacity, ⊤}
use mathlib.Core.List.{IsPrefix}
use Rattle.log_levels.specs.declared.update.Update.{Update}
use Rattle.log_levels.specs.Accepted.{entries_of, IsPlain}
use Rattle.logbook.specs.Pages.{Book}
use Rattle.published.specs.Histories.{updates_of, count_of}
use Rattle.published.specs.Writers.{IsEmptyWriter, Written}
use Rattle.map_replay.specs.declared.question.Question.{Question}
use Rattle.map_replay.specs.declared.reader_states.WaitingReader.{WaitingReader}
use Rattle.map_replay.specs.declared.reader_states.FinishedReader.{FinishedReader}
use Rattle.map_replay.specs.declared.reader_states.StartedReader.{StartedReader}
use Rattle.map_replay.specs.declared.reader_states.StartedReader.TheVariants.{Running, Finished}
use Rattle.map_replay.specs.declared.reader_states.PreparedReaders.{PreparedReaders}
use Rattle.map_replay.specs.declared.reader_states.FinalReadings.{FinalReadings}
use Rattle.published.specs.declared.slot.MapName.{Ghosts}
use Rattle.map_replay.specs.declared.workload.Source.{Source}
use Rattle.map_replay.specs.declared.workload.Source.TheVariants.{InTurn, Assigned}
use Rattle.map_replay.specs.declared.workload.Workload.{Workload}
use Rattle.map_replay.specs.declared.workload.ReplayResult.{ReplayResult}
use Rattle.map_replay.specs.declared.reading.Reading.{Reading}
use Rattle.map_replay.specs.Mixes.{IsMix}
use Rattle.map_replay.specs.Readings.{Outcome, AreCut}
use Rattle.batches.specs.Batches.{AreBatches}
use Rattle.map_replay.specs.Watching.{WasAsked}

-- a reader that was asked these questions
abbrev pub HasAsked : {M : Type 0} {name : Ghosts M} → List Question → FinishedReader M name → Type 0
HasAsked questions finished = WasAsked finished.reader.batches questions finished.sightings.items

-- a reader that was started on these questions
abbrev pub IsStartedOn : {M : Type 0} {name : Ghosts M} → List Question → StartedReader M name → Type 0
IsStartedOn questions (Running handle) = handle.promise.questions.now ≡ questions
IsStartedOn questions (Finished finished) = HasAsked questions finished

-- a reader with room for so many sightings
abbrev pub HasRoom : {M : Type 0} {name : Ghosts M} → ℕ → WaitingReader M name → Type 0
HasRoom count reader = count ≤ vec_capacity reader.sightings

-- so many readers, and room for all that they leave
pub record ArePrepared {M : Type 0} {name : Ghosts M} (questions readers : ℕ) (prepared : PreparedReaders M name) :
    Type 0 where
  pub some : 1 ≤ readers
  pub waiting : vec_len prepared.waiting ≡ readers
  pub room : All (HasRoom questions) prepared.waiting.items
  pub finished : (prepared.finished.items ≡ []) × (readers ≤ vec_capacity prepared.finished)
  pub readings : (prepared.readings.items ≡ []) × (readers ≤ vec_capacity prepared.readings)

-- a reader that was asked all questions, and whose last look shows as much as this history and begins with it
pub record HasSeen (history : List (List Update)) (questions : List Question) (reading : Reading) : Type 0 where
  pub shown : List (List Update)
  pub begins : IsPrefix history shown
  pub same : count_of shown ≡ count_of history
  pub asked : WasAsked shown questions reading.sightings.items
  pub last : reading.last ≡ count_of history

-- each reader was asked all questions and saw all that is published
pub record AreFinal (history : List (List Update)) (questions : List Question) (readers : ℕ) (finals : FinalReadings) :
    Type 0 where
  pub shown : IsPrefix history finals.look.batches
  pub whole : count_of finals.look.batches ≡ count_of history
  pub count : length finals.readings.items ≡ readers
  pub each : All (HasSeen history questions) finals.readings.items

-- no update is a sweep, where senders send them
abbrev pub AreForSource : Source → List Update → Type 0
AreForSource InTurn updates = ⊤
AreForSource (Assigned dealing) updates = All IsPlain updates

-- a writer that can publish all updates
pub record CanPublish (origin : Book) (workload : Workload) (writer : Written) : Type 0 where
  pub empty : IsEmptyWriter origin (length (entries_of workload.updates.now)) writer
  pub plain : AreForSource workload.source workload.updates.now

-- the updates are published: in turn, in batches of this size, of which the
-- last may be shorter; or as they came of senders, in batches of no more
abbrev pub ArePublishedFrom : Source →
    (size : ℕ) → List Update → (numbers : List ℕ) (mixed : List Update) → List (List Update) → Type 0
ArePublishedFrom InTurn size updates numbers mixed history = (updates_of history ≡ updates) × AreBatches size history
ArePublishedFrom (Assigned dealing) size updates numbers mixed history =
    AreCut size mixed history × IsMix dealing.senders.count updates numbers mixed

-- the workload's updates are published, these of them as they came of senders
abbrev pub ArePublished : Workload → (numbers : List ℕ) (mixed : List Update) → List (List Update) → Type 0
ArePublished workload = ArePublishedFrom workload.source workload.plan.batch workload.updates.now

-- all updates are published, and each reader saw them all
pub record IsReplayed (workload : Workload) (readers : ℕ) (replayed : ReplayResult) : Type 0 where
  pub history : List (List Update)
  pub published : ArePublished workload replayed.arrivals.numbers.items replayed.arrivals.updates.items history
  pub end : AreFinal history workload.questions.now readers replayed.finals

-- what is left of it: the updates after which it answers, and what each reader saw
pub record IsOutcome (workload : Workload) (readers : ℕ) (outcome : Outcome) : Type 0 where
  pub history : List (List Update)
  pub shown : IsPrefix history outcome.batches
  pub same : count_of outcome.batches ≡ count_of history
  pub whole : outcome.updates ≡ updates_of outcome.batches
  pub published : ArePublished workload outcome.numbers outcome.mixed history
  pub count : length outcome.readings ≡ readers
  pub each : All (HasSeen history workload.questions.now) outcome.readings
