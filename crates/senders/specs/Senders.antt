-- Updates that several senders send to one inbox, each in its order.
use Rattle.std.specs.Prelude.{◌≡◌, ◌==◌, ℕ, ◌<◌, List, [], ◌++◌, All, length, map, slice_get, Some}
use Rattle.std.specs.List.{filter}
use mathlib.Core.List.{IsSuffix}
use Rattle.atomic_table.specs.Seated.{TableId}
use Rattle.log_levels.specs.declared.update.Update.{Update}

-- which inbox a sender is of, how many updates its queue has room
-- for, and how many senders there are: they have the numbers below
pub record Origin : Type 0 where
  pub table : TableId
  pub room : ℕ
  pub senders : ℕ

-- a sender: of which inbox it is, its number, and the updates that it sent, in order
pub record Sending : Type 0 where
  pub origin : Origin
  pub number : ℕ
  pub sent : List Update

-- an inbox: the updates that it took, in order, each behind its sender's
-- number; and those that it knows to wait in the queue, the next one first
pub record Taking : Type 0 where
  pub origin : Origin
  pub taken : List (ℕ × Update)
  pub waiting : List (ℕ × Update)

-- the updates of one sender, in order
abbrev pub of_sender : ℕ → List (ℕ × Update) → List Update
of_sender number items = map (λ item. item.1) (filter (λ item. item.0 == number) items)

-- a sender that sent nothing yet
abbrev pub fresh_sender : Origin → ℕ → Sending
fresh_sender origin number = record { origin = origin; number = number; sent = [] }

-- these are that many senders, in the order of their numbers, and sent nothing yet
pub record AreFresh (origin : Origin) (count : ℕ) (senders : List Sending) : Type 0 where
  pub all : length senders ≡ count
  pub each : (number : ℕ) → number < count → slice_get senders number ≡ Some (fresh_sender origin number)

-- the queue may hold these updates, for all that a sender knows: each
-- is of some sender, and those of its own are the last that it sent
pub record MayWait (senders number : ℕ) (sent : List Update) (queued : List (ℕ × Update)) : Type 0 where
  pub numbers : All (λ item. item.0 < senders) queued
  pub own : IsSuffix (of_sender number queued) sent

-- the queue may be full, for all that the sender knows: beside
-- another sender it always may, and alone from its `room`th update on
abbrev pub MayBeFull : Sending → Type 0
MayBeFull sender = (queued : List (ℕ × Update))
    × (length queued ≡ sender.origin.room) × MayWait sender.origin.senders sender.number sender.sent queued

-- what was taken of the sender, followed by what is queued of it, is what it sent
abbrev pub IsDelivered : List (ℕ × Update) → List (ℕ × Update) → Sending → Type 0
IsDelivered taken queued sender = of_sender sender.number taken ++ of_sender sender.number queued ≡ sender.sent
