-- Codes decoded several at once, by vectors of their bytes. No public clause cites it.
use Rattle.std.specs.Prelude.{◌≡◌, ℕ, ◌*◌, ◌/◌, ◌%◌, ◌^◌, ◌<◌, List, length, slice_index, bit_and, bit_xor}

-- the 16 lanes, by index
pub record HasLanes (v : List ℕ) (lane : ℕ → ℕ) : Type 0 where
  pub len : length v ≡ 16
  pub lanes : (l : ℕ) → l < 16 → slice_index v l ≡ lane l

-- byte k of codes of eight bytes each
abbrev pub byte_of : List ℕ → ℕ → ℕ
byte_of codes k = slice_index codes (k / 8) / 256 ^ (k % 8) % 256

-- where the mask has a one, whether b's bit differs from that of a that stands `shift` higher
abbrev pub crossing : ℕ → ℕ → ℕ → ℕ → ℕ
crossing shift mask a b = bit_and (bit_xor (a / 2 ^ shift) b) mask

-- a, when those bits of b stand in it in place of its own
abbrev pub lower_side : ℕ → ℕ → ℕ → ℕ → ℕ
lower_side shift mask a b = bit_xor a (crossing shift mask a b * 2 ^ shift % 2 ^ 8)

-- b, when those bits of a stand in it in place of its own
abbrev pub upper_side : ℕ → ℕ → ℕ → ℕ → ℕ
upper_side shift mask a b = bit_xor b (crossing shift mask a b)
