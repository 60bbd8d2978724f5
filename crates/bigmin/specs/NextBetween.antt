-- The next number between two others, coordinate by coordinate. No public clause cites it.
use Rattle.std.specs.Prelude.{ℕ, ◌^◌, ◌<◌, ◌≤◌}
use Rattle.zorder.specs.Dilated.{dilated, IsBetween}

-- no coordinate of low is above that of high
abbrev pub AreOrdered : ℕ → ℕ → ℕ → Type 0
AreOrdered d low high = (c : ℕ) → c < d → dilated d c low ≤ dilated d c high

-- next is the least number above z that lies between low and high
pub record IsNextBetween (d low high z next : ℕ) : Type 0 where
  pub fits : next < 2 ^ 64
  pub above : z < next
  pub between : IsBetween d low high next
  pub least : (w : ℕ) → w < 2 ^ 64 → z < w → IsBetween d low high w → next ≤ w

-- no number above z lies between low and high
abbrev pub HasNoneBetween : ℕ → ℕ → ℕ → ℕ → Type 0
HasNoneBetween d low high z = (w : ℕ) → w < 2 ^ 64 → z < w → IsBetween d low high w → ⊥
