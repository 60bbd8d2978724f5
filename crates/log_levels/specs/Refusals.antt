-- What updates make of a map, and which ones it refuses.
use Rattle.std.specs.Prelude.{◌≡◌, ◌⊎◌, ℕ, ◌+◌, ◌<◌, List, ◌++◌, length, All, Result, Err, OnOk, OnErr}
use Rattle.log_levels.specs.declared.update.Update.{Update}
use Rattle.log_levels.specs.declared.fault.MapFault.{MapFault}
use Rattle.log_levels.specs.declared.fault.MapFault.TheVariants.{Full, NoMemory}
use Rattle.log_levels.specs.Accepted.{IsPlain, entries_of}
use Rattle.log_levels.specs.Shapes.{Held, StandsFor, capacity_of}

-- where so many entries of the updates before were accepted, of so many at most: updates
-- whose entries would be too many are refused as `Full`, with how many were accepted, but
-- that want of memory may come first where one of them is a sweep; and `Full` comes only then
pub record RefusesTooMany {X : Type 0} (IsBefore : List Update → Type 0)
    (accepted capacity : ℕ) (updates : List Update) (result : Result X MapFault) : Type 0 where
  pub full : (before : List Update) → IsBefore before →
      capacity < length (entries_of (before ++ updates)) → (result ≡ Err (Full accepted)) ⊎ (result ≡ Err NoMemory)
  pub full_first : All IsPlain updates → capacity < accepted + length updates → result ≡ Err (Full accepted)
  pub full_only : (count : ℕ) → result ≡ Err (Full count) → (count ≡ accepted)
      × ((before : List Update) → IsBefore before → capacity < length (entries_of (before ++ updates)))
  pub plain_only : All IsPlain updates → (count : ℕ) → result ≡ Err (Full count) → capacity < accepted + length updates

-- a map refuses these updates where their entries would be too many
abbrev pub Refuses : {X : Type 0} → Held → List Update → Result X MapFault → Type 0
Refuses held updates result = RefusesTooMany (StandsFor held) held.accepted (capacity_of held) updates result

-- these updates are applied to a map, or refused: then it is as it was
pub record AreApplied {X : Type 0} (old new : Held) (updates : List Update) (result : Result X MapFault) : Type 0 where
  pub applied : OnOk result ((before : List Update) → StandsFor old before → StandsFor new (before ++ updates))
  pub refused : Refuses old updates result
  pub unchanged : OnErr result (new ≡ old)
  pub levels : length new.levels ≡ length old.levels
