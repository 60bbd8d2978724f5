-- Numbers counted by the steps of a scale.
use Rattle.std.specs.Prelude.{ℕ, ◌<◌, ◌^◌, List, length, slice_index}
use Rattle.radix_table.specs.declared.candidate.Candidate.{Candidate}
use Rattle.radix_table.specs.declared.scale.Scale.{Scale}
use Rattle.radix_table.specs.Tables.{step_of, IsScale, AreCounts, HasAtMost}

-- the numbers stand in so few steps that entries can be counted
abbrev pub AreFew : List ℕ → Scale → Type 0
AreFew xs scale = (k : ℕ) → k < length xs → step_of scale (slice_index xs k) < 2 ^ 36

-- a candidate for the table of these numbers
pub record IsCandidateOf (xs : List ℕ) (candidate : Candidate) : Type 0 where
  pub scale : IsScale candidate.scale
  pub counts : AreCounts (step_of candidate.scale) xs candidate.entries.items
  pub fullest : HasAtMost candidate.fullest candidate.entries.items
