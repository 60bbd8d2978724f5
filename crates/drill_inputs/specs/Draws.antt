-- The draws of a linear congruential generator, by a seed below 2 ^ 31.
-- Source: the example of `rand` in ISO/IEC 9899, 7.22.2, which draws the same numbers; Knuth, TAOCP vol. 2, 3.2.1.
use Rattle.std.specs.Prelude.{ℕ, zero, suc, ◌+◌, ◌*◌, ◌/◌, ◌%◌, ◌^◌}

-- the state after one more draw
abbrev pub next_state : ℕ → ℕ
next_state state = (1103515245 * state + 12345) % 2 ^ 31

-- the state after i draws; before the first it is the seed
unfoldable pub state_after : ℕ → ℕ → ℕ
state_after seed zero = seed
state_after seed (suc i) = next_state (state_after seed i)

-- draw i, counted from 0: of the state's 31 bits after it the upper 15
unfoldable pub drawn : ℕ → ℕ → ℕ
drawn seed i = state_after seed (i + 1) / 65536
