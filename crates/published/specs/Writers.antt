-- A writer as callers see it.
use Rattle.std.specs.Prelude.{◌≡◌, ◌≤◌, ℕ, List, [], ◌++◌, length, Result}
use Rattle.logbook.specs.Pages.{Book}
use Rattle.log_levels.specs.declared.update.Update.{Update}
use Rattle.log_levels.specs.declared.fault.MapFault.{MapFault}
use Rattle.log_levels.specs.Accepted.{entries_of}
use Rattle.log_levels.specs.Refusals.{RefusesTooMany}
use Rattle.published.specs.Histories.{updates_of}

-- the history that is published, the batch in hand, and how many entries the map can accept
pub record Written : Type 0 where
  pub origin : Book
  pub history : List (List Update)
  pub batch : List Update
  pub capacity : ℕ

-- the updates that are published, and those of the batch in hand behind them
abbrev pub updates_in : Written → List Update
updates_in writer = updates_of writer.history ++ writer.batch

-- how many entries these are
abbrev pub count_in : Written → ℕ
count_in writer = length (entries_of (updates_in writer))

-- a writer refuses these updates where the entries would be more than the map can accept
abbrev pub Refuses : {X : Type 0} → Written → List Update → Result X MapFault → Type 0
Refuses writer updates result =
    RefusesTooMany (λ before. before ≡ updates_in writer) (count_in writer) writer.capacity updates result

-- the writer of the same history, whose map can accept as many entries
pub record IsSameMap (old new : Written) : Type 0 where
  pub origin : new.origin ≡ old.origin
  pub capacity : new.capacity ≡ old.capacity

-- a writer of this history, which is empty, with nothing in hand, whose map can accept so many entries
pub record IsEmptyWriter (origin : Book) (entries : ℕ) (writer : Written) : Type 0 where
  pub own : writer.origin ≡ origin
  pub empty : writer.history ≡ []
  pub none_staged : writer.batch ≡ []
  pub fits : entries ≤ writer.capacity
