-- How long the runs of an index are at least, and so how many levels it has at most.
use Rattle.std.specs.Prelude.{◌==◌, if◌then◌else◌, ℕ, ◌+◌, ◌*◌, ◌-◌, ◌<◌, ◌≤◌, ◌^◌, List, length, slice_index_or}
use Rattle.exact_cross.specs.declared.segment.Segment.{Segment}

-- how many places each run of level i but the last one has at least
abbrev pub least_places : ℕ → ℕ → ℕ
least_places eps_rec i = if i == 0 then 2 else 2 * eps_rec + 2

-- each run but the last one has at least so many places
abbrev pub HasLongRuns : ℕ → List Segment → Type 0
HasLongRuns least segments =
    (k : ℕ) (d : Segment) → k + 1 < length segments →
    (slice_index_or segments k d).start + least ≤ (slice_index_or segments (k + 1) d).start

-- two levels or more stand on more than 2 * (2ε' + 2) ^ (levels - 2) points
abbrev pub IsLow : ℕ → ℕ → ℕ → Type 0
IsLow eps_rec levels points = 2 ≤ levels → 2 * (2 * eps_rec + 2) ^ (levels - 2) < points

-- two levels or more have more than (2ε' + 2) ^ (levels - 2) runs at level 0
abbrev pub IsLowOverRuns : ℕ → ℕ → ℕ → Type 0
IsLowOverRuns eps_rec levels runs = 2 ≤ levels → (2 * eps_rec + 2) ^ (levels - 2) < runs
