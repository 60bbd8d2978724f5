-- Covers of a list of points by runs, and the greedy one.
use Rattle.std.specs.Prelude.{◌≡◌, ℕ, ◌+◌, ◌<◌, List, [], ◌∷◌}
use Rattle.exact_cross.specs.Points.{Points}
use Rattle.exact_cross.specs.Lines.{SomeLineFits}

-- where a run ends: at the next run's start, the last run at the end of all
abbrev pub run_end : List ℕ → ℕ → ℕ
run_end [] to = to
run_end (next ∷ later) to = next

-- the starts cut from..to into runs of a place or more, each of which, from its start to its end, is an R
abbrev pub CutsInto : (ℕ → ℕ → Type 0) → ℕ → ℕ → List ℕ → Type 0
CutsInto R from to [] = from ≡ to
CutsInto R from to (start ∷ later) =
    (start ≡ from) × (from < run_end later to) × R from (run_end later to) × CutsInto R (run_end later to) to later

-- a cover: runs that some line fits
abbrev pub IsCover : Points → ℕ → ℕ → ℕ → List ℕ → Type 0
IsCover p eps from to starts = CutsInto (SomeLineFits p eps) from to starts

-- a run that some line fits, and no line fits it with the place after it
pub record IsLongest (p : Points) (eps to s e : ℕ) : Type 0 where
  pub fits : SomeLineFits p eps s e
  pub no_longer : e < to → SomeLineFits p eps s (e + 1) → ⊥

-- the greedy cover, whose runs are each as long as a line can be (Ferragina and Vinciguerra, PVLDB 2020)
abbrev pub IsGreedy : Points → ℕ → ℕ → ℕ → List ℕ → Type 0
IsGreedy p eps from to starts = CutsInto (IsLongest p eps to) from to starts
