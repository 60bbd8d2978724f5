-- The rule of the queue, over the updates in it and what all passes know. No public clause cites it.
use Rattle.std.specs.Prelude.{◌≡◌, ℕ, ◌+◌, ◌-◌, ◌<◌, ◌≤◌, Bool, true, false}
use Rattle.std.specs.Prelude.{List, [], ◌∷◌, ◌++◌, All, length, sum_by, Option}
use mathlib.Core.Option.{some}
use mathlib.Core.List.{IsPrefix}
use lib.ListN.{get_elem?}
use Rattle.log_levels.specs.declared.update.Update.{Update}
use Rattle.senders.specs.declared.views.Hand.{Hand}
use Rattle.senders.specs.declared.views.View.{View}
use Rattle.crossbeam_queue.specs.Passes.{ruled_capacity}
use Rattle.crossbeam_queue.specs.declared.array_queue.Doing.{Doing}
use Rattle.crossbeam_queue.specs.declared.array_queue.Slotted.{Slotted}
use Rattle.senders.specs.Senders.{Origin, of_sender, MayWait}
use Rattle.options.specs.declared.map.TheConstants.{MAX_ROOM, MAX_SENDERS}

-- how many senders were made and can be, at which pass each of them and the inbox stand, and what the inbox took
pub record Core : Type 0 where
  pub made : ℕ
  pub count : ℕ
  pub seat : ℕ → ℕ
  pub reader : ℕ
  pub taken : List (ℕ × Update)

-- a sender that stands at this pass: what was taken of it, followed by what is queued of it, is what it sent
pub record IsHand (core : Core) (items : List (ℕ × Update)) (pass : ℕ) (hand : Hand) : Type 0 where
  pub made : hand.number < core.made
  pub seat : core.seat hand.number ≡ pass
  pub sent : of_sender hand.number (core.taken ++ items) ≡ hand.sent

-- the inbox stands at this pass: it knows what it took, and the queue begins with what it knows to wait
pub record IsInbox (core : Core) (items : List (ℕ × Update)) (pass : ℕ) (v : View) : Type 0 where
  pub reader : core.reader ≡ pass
  pub made : v.made ≡ core.made
  pub count : v.senders ≡ core.count
  pub taken : v.taken ≡ core.taken
  pub waiting : IsPrefix v.waiting items

pub record Fits (core : Core) (items : List (ℕ × Update)) (pass : ℕ) (v : View) : Type 0 where
  pub count : core.count ≤ v.senders
  pub hands : All (IsHand core items pass) v.hands
  pub inbox : v.takes ≡ true → IsInbox core items pass v

-- how many updates the senders of a pass sent
abbrev pub sent_count : View → ℕ
sent_count v = sum_by (λ hand. length hand.sent) v.hands

-- Each sender stands at one pass, and so does the inbox. All that
-- was sent was taken or is queued, and of each sender in its order
pub record IsInOrder (core : Core) (items : List (ℕ × Update)) (views : List View) : Type 0 where
  pub seated : core.made ≤ core.count
  pub few : core.count ≤ MAX_SENDERS
  pub small : length items ≤ MAX_ROOM
  pub numbers : All (λ item. item.0 < core.made) (core.taken ++ items)
  pub hands : sum_by (λ v. length v.hands) views ≡ core.made
  pub total : sum_by sent_count views ≡ length core.taken + length items
  pub each : (pass : ℕ) (v : View) → get_elem? views pass ≡ some v → Fits core items pass v

abbrev pub Delivers : List (ℕ × Update) → List View → Type 0
Delivers items views = (core : Core) × IsInOrder core items views

abbrev pub hand_of : ℕ → List Update → Hand
hand_of number sent = record { number = number; sent = sent }

-- what a sender knows: how many senders there are at most, its number, and what it sent
abbrev pub sending : ℕ → ℕ → List Update → View
sending senders number sent =
    record { senders = senders; made = 0; hands = hand_of number sent ∷ []; takes = false; taken = []; waiting = [] }

-- what the inbox knows, with the senders that it stands for
abbrev pub taking : ℕ → ℕ → List Hand → List (ℕ × Update) → List (ℕ × Update) → View
taking senders made hands taken waiting =
    record { senders = senders; made = made; hands = hands; takes = true; taken = taken; waiting = waiting }

-- what is left of a pass that another took in
abbrev pub spent : View
spent = record { senders = MAX_SENDERS; made = 0; hands = []; takes = false; taken = []; waiting = [] }

-- the inbox of this queue
abbrev pub origin_of : {Q A : Type 0} → Slotted (Option (ℕ × Update)) (Doing (ℕ × Update) View) Q A → ℕ → Origin
origin_of line senders = record { table = line.table.shared.table_id; room = ruled_capacity line; senders = senders }

-- the first sender of a pass
abbrev pub number_by : List Hand → ℕ
number_by [] = 0
number_by (hand ∷ hands) = hand.number

abbrev pub sent_by : List Hand → List Update
sent_by [] = []
sent_by (hand ∷ hands) = hand.sent

-- the last number gets no sender
abbrev pub one_fewer : View → View
one_fewer v = record v { senders = v.senders - 1 }

-- the next number gets its sender
abbrev pub one_made : View → View
one_made v = record v { made = v.made + 1 }

abbrev pub one_apart : View → View
one_apart v = sending v.senders v.made []

-- the inbox's pass stands for a sender too
abbrev pub joined : View → View → View
joined v w = record v { hands = w.hands ++ v.hands }

-- a send: the update stands at the end of what was sent
abbrev pub sends : View → ℕ × Update → View → Type 0
sends v item w = w ≡ sending v.senders (number_by v.hands) (sent_by v.hands ++ item.1 ∷ [])

-- a take: the update stands at the end of what was taken; what was known to wait is this update, or waits still
pub record Took (v : View) (item : ℕ × Update) (w : View) : Type 0 where
  pub after : w ≡ taking v.senders v.made v.hands (v.taken ++ item ∷ []) w.waiting
  pub order : IsPrefix v.waiting (item ∷ w.waiting)
  pub number : item.0 < v.senders

-- what a sender knows of the queue
abbrev pub Knows : View → List (ℕ × Update) → Type 0
Knows v items = MayWait v.senders (number_by v.hands) (sent_by v.hands) items

-- what the inbox knows of the queue
abbrev pub Awaits : View → List (ℕ × Update) → Type 0
Awaits v items = IsPrefix v.waiting items

-- what a pass that stands for the inbox and all senders knows of the queue
pub record Settles (v : View) (items : List (ℕ × Update)) : Type 0 where
  pub small : length items ≤ MAX_ROOM
  pub total : sent_count v ≡ length v.taken + length items
  pub hands : All (λ hand. of_sender hand.number (v.taken ++ items) ≡ hand.sent) v.hands
