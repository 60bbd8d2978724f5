-- Codes of three coordinates decoded several at once, by vectors of their bytes. No public clause cites it.
use Rattle.std.specs.Prelude.{◌≡◌, ℕ, ◌+◌, ◌*◌, ◌%◌, ◌<◌}
use Rattle.std.specs.Int.{bit_at}

-- the four bytes of x are every third byte of z from byte s on, in each of which place q has bit 3 * q % 8
abbrev pub HasThirds : ℕ → ℕ → ℕ → Type 0
HasThirds s z x = (m q : ℕ) → m < 4 → q < 8 → bit_at x (m * 8 + q) ≡ bit_at z (24 * m + 8 * s + 3 * q % 8)
