-- Updates that are dealt out to senders, and the orders in which they may come.
use Rattle.std.specs.Prelude.{◌≡◌, ℕ, ◌+◌, ◌%◌, List, [], ◌∷◌, map, length}
use Rattle.log_levels.specs.declared.update.Update.{Update}
use Rattle.senders.specs.Senders.{of_sender}

-- the updates from this place on, each behind the number of
-- the sender that it is dealt to: its place modulo the senders
abbrev pub dealt_from : (senders place : ℕ) → List Update → List (ℕ × Update)
dealt_from senders place [] = []
dealt_from senders place (update ∷ updates) = (place % senders, update) ∷ dealt_from senders (place + 1) updates

abbrev pub dealt : (senders : ℕ) → List Update → List (ℕ × Update)
dealt senders updates = dealt_from senders 0 updates

-- an order in which updates that were dealt out may come: each sender's whole, once, in its order
abbrev pub IsMixed : (senders : ℕ) → List Update → List (ℕ × Update) → Type 0
IsMixed senders updates items = (number : ℕ) → of_sender number items ≡ of_sender number (dealt senders updates)

-- the numbers of the senders and the updates, in such an order
pub record IsMix (senders : ℕ) (updates : List Update) (numbers : List ℕ) (mixed : List Update) : Type 0 where
  pub items : List (ℕ × Update)
  pub is_mixed : IsMixed senders updates items
  pub count : length mixed ≡ length updates
  pub numbers_are : numbers ≡ map (λ item. item.0) items
  pub updates_are : mixed ≡ map (λ item. item.1) items
