-- The level at which a lookup starts.
use Rattle.std.specs.Prelude.{ℕ, ◌+◌, ◌-◌, ◌*◌, ◌^◌, ◌<◌, ◌≤◌, List, length}
use Rattle.exact_cross.specs.declared.segment.Segment.{Segment}
use Rattle.levels.specs.declared.level.Level.{Level}
use Rattle.levels.specs.Indexes.{xs_at}
use Rattle.levels.specs.Stored.{AreStored, segments_of}
use Rattle.radix_table.specs.Tables.{RadixEntries, IsTableOf}

-- a lookup may start at level `top`: it is the last one, or its runs'
-- first x can be halved in as many steps as the levels above may take
pub record IsEntry (keys : List ℕ) (eps_rec : ℕ) (levels : List (List Segment)) (top : ℕ) : Type 0 where
  pub inside : 0 < length levels → top < length levels
  pub few : top + 1 < length levels →
      2 * length (xs_at keys levels (top + 1)) ≤ (4 * (2 * eps_rec + 3)) ^ (length levels - 1 - top)

-- two to the number of steps that the levels above level 0 may take
abbrev pub share_of : ℕ → ℕ → ℕ
share_of eps_rec levels = (4 * (2 * eps_rec + 3)) ^ (levels - 1)

-- all levels, where lookups start, and the table over the first x of the runs of level 0
pub record IsWhole (keys : List ℕ) (eps eps_rec : ℕ) (levels : List Level) (top : ℕ) (table : RadixEntries) :
    Type 0 where
  pub stored : AreStored keys eps eps_rec levels
  pub entry : IsEntry keys eps_rec (segments_of levels) top
  pub table_of : IsTableOf (xs_at keys (segments_of levels) 1) (share_of eps_rec (length levels)) table
