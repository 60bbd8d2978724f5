-- The shape of the logarithmic form: a cut of one list of entries by the bits of a number.
-- Source: J. L. Bentley and J. B. Saxe, Decomposable searching problems, J. Algorithms 1(4), 1980.
use Rattle.std.specs.Prelude.{◌≡◌, ℕ, ◌+◌, ◌-◌, ◌*◌, ◌/◌, ◌^◌, ◌<◌, ◌==◌, List}
use Rattle.std.specs.Prelude.{length, take, drop, Option, Some, None, slice_index_or}
use Rattle.std.specs.Int.{bit_at}
use Rattle.tombstones.specs.declared.entry.Entry.{Entry}
use Rattle.map_level.specs.Levels.{IsLastOfEach}
use Rattle.log_levels.specs.declared.update.Update.{Update}
use Rattle.log_levels.specs.Accepted.{entries_of, puts_of}
use Rattle.log_levels.specs.Maps.{map_after, pairs_between}

-- what a map by the logarithmic method holds: how many entries it accepted, those since
-- the last flush, and its levels, the lowest first; one that isn't occupied is None
pub record Held : Type 0 where
  pub accepted : ℕ
  pub buffer : List Entry
  pub levels : List (Option (List Entry))

-- how many entries a map with so many levels can accept
abbrev pub capacity_with : ℕ → ℕ
capacity_with levels = 64 * 2 ^ levels - 1

-- how many entries a map can accept
abbrev pub capacity_of : Held → ℕ
capacity_of held = capacity_with (length held.levels)

-- a level, if it is occupied
abbrev pub level_of : Held → ℕ → Option (List Entry)
level_of held i = slice_index_or held.levels i None

-- the number without its bits below bit i
abbrev pub from_bit : ℕ → ℕ → ℕ
from_bit i f = f / 2 ^ i * 2 ^ i

-- the block of level i, where f blocks of 64 entries are cut from the highest
-- bit of f down: behind the blocks of the bits above i as many as bit i says
abbrev pub block_of : List Entry → ℕ → ℕ → List Entry
block_of entries f i = take (64 * (bit_at f i * 2 ^ i)) (drop (64 * from_bit (i + 1) f) entries)

-- bit i of f says whether level i is occupied, and an occupied
-- level has its block; the deepest one is that of the highest bit
abbrev pub IsLevelFor : List Entry → ℕ → ℕ → Option (List Entry) → Type 0
IsLevelFor entries f i None = bit_at f i ≡ 0
IsLevelFor entries f i (Some level) =
    (bit_at f i ≡ 1) × IsLastOfEach (f / 2 ^ (i + 1) == 0) (block_of entries f i) level

-- these entries, cut: blocks of 64, 128, 256 .. of them by the bits of a
-- 64th of their number, the lower bits behind, and the rest in the buffer
pub record IsCutOf (held : Held) (entries : List Entry) : Type 0 where
  pub accepted : held.accepted ≡ length entries
  pub fits : length entries < 64 * 2 ^ length held.levels
  pub buffer : held.buffer ≡ drop (64 * (length entries / 64)) entries
  pub levels : (i : ℕ) → i < length held.levels → IsLevelFor entries (length entries / 64) i (level_of held i)

-- the map stands for these updates: their entries, cut
abbrev pub StandsFor : Held → List Update → Type 0
StandsFor held updates = IsCutOf held (entries_of updates)

-- a map of these pairs: it stands for a put of each, after which the ordered
-- map is these pairs; it has so many levels, and has accepted nothing else
pub record IsMapOf (levels : ℕ) (pairs : List (ℕ × ℕ)) (map : Held) : Type 0 where
  pub stands : StandsFor map (puts_of pairs)
  pub same : map_after (puts_of pairs) ≡ pairs
  pub accepted : map.accepted ≡ length pairs
  pub level_count : length map.levels ≡ levels

-- what is left of the pairs of a range: those of a map from one key to another, both included
pub record Left : Type 0 where
  pub map : Held
  pub low : ℕ
  pub high : ℕ

-- the pairs that are left, where the map stands for these updates
abbrev pub pairs_left : Left → List Update → List (ℕ × ℕ)
pairs_left left updates = pairs_between (map_after updates) left.low left.high
