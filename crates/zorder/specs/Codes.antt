-- Morton codes: how the bits of two, three or four coordinates interleave.
-- Source: G. M. Morton, A computer oriented geodetic data base
-- and a new technique in file sequencing, IBM Ottawa, 1966.
use Rattle.std.specs.Prelude.{◌≡◌, ℕ, zero, suc, ◌+◌, ◌*◌, ◌/◌, ◌%◌, ◌^◌, ◌<◌, ◌≤◌, List, slice_index}
use Rattle.std.specs.Int.{bit_at}

-- a point has two, three or four coordinates
abbrev pub IsDimension : ℕ → Type 0
IsDimension d = (2 ≤ d) × (d ≤ 4)

-- how many bits a coordinate has: 32, 21 or 16 for two, three or four coordinates
abbrev pub coordinate_bits : ℕ → ℕ
coordinate_bits d = 64 / d

-- each of the first d coordinates has at most that many bits
abbrev pub IsInRange : ℕ → List ℕ → Type 0
IsInRange d coords = (c : ℕ) → c < d → slice_index coords c < 2 ^ coordinate_bits d

-- z has at most the bits of d coordinates: it is below 2 ^ 64, 2 ^ 63 or 2 ^ 64
abbrev pub IsCode : ℕ → ℕ → Type 0
IsCode d z = z < 2 ^ (d * coordinate_bits d)

-- z is the code of the first d coordinates: bit b of coordinate c is bit b * d + c of z
abbrev pub IsCodeOf : ℕ → List ℕ → ℕ → Type 0
IsCodeOf d coords z = (b c : ℕ) → c < d → bit_at z (b * d + c) ≡ bit_at (slice_index coords c) b

-- the number of `count` bits whose bit i is `bit i`
unfoldable pub number_of : ℕ → (ℕ → ℕ) → ℕ
number_of zero bit = 0
number_of (suc count) bit = bit count * 2 ^ count + number_of count bit

-- coordinate c of the code z of d coordinates: its bit b is bit b * d + c of z
unfoldable pub coordinate : ℕ → ℕ → ℕ → ℕ
coordinate d c z = number_of 64 (λ b. bit_at z (b * d + c))

-- the code of the first d coordinates: its bit i is bit i / d of coordinate i % d
unfoldable pub code : ℕ → List ℕ → ℕ
code d coords = number_of 64 (λ i. bit_at (slice_index coords (i % d)) (i / d))

-- none of the first d coordinates of `lower` is above that of `upper`
abbrev pub IsNowhereAbove : ℕ → List ℕ → List ℕ → Type 0
IsNowhereAbove d lower upper = (c : ℕ) → c < d → slice_index lower c ≤ slice_index upper c
