-- A number with its bits pulled apart, on the way from a coordinate to its places in a code. No public clause cites it.
use Rattle.std.specs.Prelude.{◌≡◌, ℕ, ◌+◌, ◌*◌, ◌<◌, ◌≤◌}
use Rattle.std.specs.Int.{bit_at}

-- y has the bits of x in blocks of `block` bits, which begin `stride` bits apart, and no other bits
pub record IsSpread (block stride x y : ℕ) : Type 0 where
  pub filled : (j r : ℕ) → r < block → bit_at y (j * stride + r) ≡ bit_at x (j * block + r)
  pub empty : (j r : ℕ) → block ≤ r → r < stride → bit_at y (j * stride + r) ≡ 0
