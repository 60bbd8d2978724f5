-- A sender on its way through the updates that are dealt to it,
-- and the writer's end of the queue. No public clause cites it.
use Rattle.std.specs.Prelude.{◌≡◌, ◌≤◌, ◌<◌, ◌-◌, ◌+◌, ◌%◌, ◌++◌, [], ℕ, List, All}
use Rattle.std.specs.Prelude.{length, take, drop, map, vec_capacity, vec_len, get_or, ◌∷◌}
use Rattle.log_levels.specs.declared.update.Update.{Update}
use Rattle.log_levels.specs.Accepted.{IsPlain}
use Rattle.senders.specs.Senders.{Origin, Sending, of_sender}
use Rattle.map_replay.specs.declared.sender_states.SenderProgress.{SenderProgress}
use Rattle.map_replay.specs.declared.sender_states.StartedSender.{StartedSender}
use Rattle.map_replay.specs.declared.sender_states.StartedSender.TheVariants.{Running, Served}
use Rattle.map_replay.specs.declared.intake.Intake.{Intake}
use Rattle.map_replay.specs.declared.workload.Assignment.{Assignment}
use Rattle.map_replay.specs.Mixes.{dealt, dealt_from}

-- the sender of this number, of this inbox: what it sent, followed by
-- what is dealt to it from its place on, is all that is dealt to it
pub record IsOnItsWay (origin : Origin) (senders : ℕ) (updates : List Update) (number : ℕ) (progress : SenderProgress) :
    Type 0 where
  pub own : progress.sender.origin ≡ origin
  pub numbered : progress.sender.number ≡ number
  pub place : progress.place % senders ≡ number
  pub share : progress.sender.sent ++ of_sender number (dealt_from senders progress.place (drop progress.place updates))
      ≡ of_sender number (dealt senders updates)

-- it stays such a sender
abbrev pub Keeps : (senders : ℕ) → List Update → SenderProgress → SenderProgress → Type 0
Keeps senders updates before after = (origin : Origin) (number : ℕ) →
    IsOnItsWay origin senders updates number before → IsOnItsWay origin senders updates number after

-- a sender that was started as such a one
abbrev pub IsStarted : Origin → Assignment → (number : ℕ) → StartedSender → Type 0
IsStarted origin assignment number (Running handle) =
    (handle.promise.assignment.dealing.senders.count ≡ assignment.dealing.senders.count)
    × (handle.promise.assignment.updates.now ≡ assignment.updates.now)
    × IsOnItsWay origin assignment.dealing.senders.count assignment.updates.now number handle.promise.progress.value
IsStarted origin assignment number (Served progress) =
    IsOnItsWay origin assignment.dealing.senders.count assignment.updates.now number progress

-- each of these is what the one at its place has to be
abbrev pub AreAt : {T : Type 0} → (ℕ → T → Type 0) → List T → Type 0
AreAt {T} Is items = (place : ℕ) (other : T) → place < length items → Is place (get_or items place other)

-- the sender at this place of those that are started, of which the last sender is the first
abbrev pub IsStartedAt : Origin → Assignment → (place : ℕ) → StartedSender → Type 0
IsStartedAt origin assignment place = IsStarted origin assignment (assignment.dealing.senders.count - (place + 1))

-- the last senders are started, the first of them last
abbrev pub AreStarted : Origin → Assignment → List StartedSender → Type 0
AreStarted origin assignment = AreAt (IsStartedAt origin assignment)

-- a sender that sent all that is dealt to it
pub record IsDone (origin : Origin) (assignment : Assignment) (number : ℕ) (sender : Sending) : Type 0 where
  pub own : sender.origin ≡ origin
  pub numbered : sender.number ≡ number
  pub whole : sender.sent ≡ of_sender number (dealt assignment.dealing.senders.count assignment.updates.now)

-- the first senders, in the order of their numbers
abbrev pub AreDone : Origin → Assignment → List Sending → Type 0
AreDone origin assignment = AreAt (IsDone origin assignment)

-- a writer's end with room for so many updates, and what it took
pub record IsIntake (total : ℕ) (intake : Intake) : Type 0 where
  pub numbers : intake.arrivals.numbers.items ≡ map (λ item. item.0) intake.inbox.taken
  pub updates : intake.arrivals.updates.items ≡ map (λ item. item.1) intake.inbox.taken
  pub numbers_room : total ≤ vec_capacity intake.arrivals.numbers
  pub updates_room : total ≤ vec_capacity intake.arrivals.updates
  pub within : length intake.inbox.taken ≤ total
  pub known : All (λ item. item.0 < intake.inbox.origin.senders) intake.inbox.taken
  pub plain : All IsPlain intake.arrivals.updates.items

-- there is room for one more
pub record HasRoom (intake : Intake) : Type 0 where
  pub numbers : vec_len intake.arrivals.numbers < vec_capacity intake.arrivals.numbers
  pub updates : vec_len intake.arrivals.updates < vec_capacity intake.arrivals.updates

-- it took an update
pub record TookOne (before after : Intake) : Type 0 where
  pub item : ℕ × Update
  pub own : after.inbox.origin ≡ before.inbox.origin
  pub inbox : after.inbox.taken ≡ before.inbox.taken ++ item ∷ []
  pub numbers : after.arrivals.numbers.items ≡ before.arrivals.numbers.items ++ item.0 ∷ []
  pub updates : after.arrivals.updates.items ≡ before.arrivals.updates.items ++ item.1 ∷ []
  pub numbers_room : vec_capacity before.arrivals.numbers ≤ vec_capacity after.arrivals.numbers
  pub updates_room : vec_capacity before.arrivals.updates ≤ vec_capacity after.arrivals.updates
  pub known : item.0 < before.inbox.origin.senders
  pub plain : IsPlain item.1

-- it took a batch of no more than so many: the updates stand behind those that it took before
pub record TookBatch (size : ℕ) (before after : Intake) : Type 0 where
  pub own : after.inbox.origin ≡ before.inbox.origin
  pub more : length before.arrivals.updates.items < length after.arrivals.updates.items
  pub begins : take (length before.arrivals.updates.items) after.arrivals.updates.items ≡ before.arrivals.updates.items
  pub few : length after.arrivals.updates.items ≤ length before.arrivals.updates.items + size
