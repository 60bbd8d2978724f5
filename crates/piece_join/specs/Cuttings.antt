-- Where points are cut into pieces.
use Rattle.std.specs.Prelude.{◌≡◌, ◌↔◌, if◌then◌else◌, ℕ, ◌+◌, ◌-◌, ◌*◌, ◌/◌, ◌<◌, ◌≤◌}
use Rattle.std.specs.Prelude.{nat_lt, List, [], ◌∷◌, ◌++◌, length, slice_index, All, Contains}
use Rattle.std.specs.List.Sorted.{IsStrictlyIncreasing}
use Rattle.options.specs.declared.index.TheConstants.{MAX_PIECES}

-- cuts of m points: places from 1 to m - 1, each below the next
pub record AreCuts (m : ℕ) (cuts : List ℕ) : Type 0 where
  pub rise : IsStrictlyIncreasing cuts
  pub inside : All (λ cut. (0 < cut) × (cut < m)) cuts

-- and fewer than there can be pieces
pub record AreFewCuts (m : ℕ) (cuts : List ℕ) : Type 0 where
  pub are : AreCuts m cuts
  pub few : length cuts < MAX_PIECES

-- of the values place 1, place 2, .. up to place (n - 1) those from 1 to m - 1, each once, in rising order
pub record AreCutsAt (m n : ℕ) (place : ℕ → ℕ) (cuts : List ℕ) : Type 0 where
  pub are : AreCuts m cuts
  pub each : (cut : ℕ) → Contains cuts cut ↔ ((0 < cut) × (cut < m) × ((k : ℕ) × (0 < k) × (k < n) × (place k ≡ cut)))

-- the end of the first k of equal pieces
abbrev pub even_place : ℕ → ℕ → ℕ → ℕ
even_place m pieces k = k * m / pieces

-- the end of the first k of pieces that grow, each by as much as the first one is long
abbrev pub uneven_place : ℕ → ℕ → ℕ → ℕ
uneven_place m pieces k = m * k * (k + 1) / (pieces * (pieces + 1))

-- one value more: a cut where it is above the last one, and above 0. No public clause cites it
abbrev pub with_cut : List ℕ → ℕ → List ℕ
with_cut cuts cut = if nat_lt (slice_index cuts (length cuts - 1)) cut then cuts ++ cut ∷ [] else cuts
