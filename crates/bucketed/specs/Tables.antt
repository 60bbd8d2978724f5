-- A table in place of the levels above level 0: how many runs of level 0 begin before each step of equal size.
-- Source: P. Ferragina and G. Vinciguerra, the bucketing form of the PGM-index library, 2020.
use Rattle.std.specs.Prelude.{◌≡◌, ℕ, ◌+◌, ◌-◌, ◌*◌, ◌/◌, ◌^◌, ◌≤◌, List, length, map, slice_index}
use Rattle.window_search.specs.Searches.{lb}
use Rattle.levels.specs.Indexes.{PgmIndex, xs_at}
use Rattle.options.specs.declared.index.TheConstants.{MAX_BITS}

-- an index, and how many top bits of a number tell its bucket
pub record Bucketed : Type 0 where
  pub index : PgmIndex
  pub bits : ℕ

-- the bucket of a number of 64 bits: its top bits
abbrev pub bucket_of : ℕ → ℕ → ℕ
bucket_of bits x = x / 2 ^ (64 - bits)

-- the buckets of the first x of the runs of level 0
abbrev pub run_buckets : PgmIndex → ℕ → List ℕ
run_buckets index bits = map (bucket_of bits) (xs_at index.keys index.levels 1)

-- how many runs of level 0 have a first x whose top bits are below h
abbrev pub entry_at : PgmIndex → ℕ → ℕ → ℕ
entry_at index bits h = lb (run_buckets index bits) h

-- how many runs of level 0 begin in q's bucket
abbrev pub runs_beside : PgmIndex → ℕ → ℕ → ℕ
runs_beside index bits q = entry_at index bits (bucket_of bits q + 1) - entry_at index bits (bucket_of bits q)

-- two to the number of keys that are read: 4 times the runs that the bucket leaves open and the places of a window
abbrev pub lookup_bound : PgmIndex → ℕ → ℕ → ℕ
lookup_bound index bits q = 4 * (runs_beside index bits q + 1) * (2 * index.eps + 3)

-- a table has an entry for each bucket, and one more
pub record IsTable (index : PgmIndex) (bits : ℕ) (table : List ℕ) : Type 0 where
  pub count : length table ≡ 2 ^ bits + 1
  pub each : (h : ℕ) → h ≤ 2 ^ bits → slice_index table h ≡ entry_at index bits h

-- what a table over an index is
pub record AreBuckets (index : PgmIndex) (bits : ℕ) (table : List ℕ) : Type 0 where
  pub some : 1 ≤ bits
  pub few : bits ≤ MAX_BITS
  pub entries : IsTable index bits table
