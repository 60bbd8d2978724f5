-- Coordinates at their places in a code, where they compare as they do by themselves.
-- Source: R. Raman and D. S. Wise, Converting to and from dilated integers, IEEE Transactions on Computers 57, 2008.
use Rattle.std.specs.Prelude.{◌==◌, if◌then◌else◌, ℕ, ◌%◌, ◌<◌, ◌≤◌}
use Rattle.std.specs.Int.{bit_at}
use Rattle.zorder.specs.Codes.{number_of}

-- the dilated coordinate c of the code z of d coordinates: z without the bits of the other coordinates
unfoldable pub dilated : ℕ → ℕ → ℕ → ℕ
dilated d c z = number_of 64 (λ i. if (i % d) == c then bit_at z i else 0)

-- the code w lies between low and high, coordinate by coordinate
pub record IsBetween (d low high w : ℕ) : Type 0 where
  pub not_below : (c : ℕ) → c < d → dilated d c low ≤ dilated d c w
  pub not_above : (c : ℕ) → c < d → dilated d c w ≤ dilated d c high
