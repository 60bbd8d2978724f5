-- The places that decide a coordinate, and the zeros of a code that may turn into a one. No public clause cites it.
use Rattle.std.specs.Prelude.{◌≡◌, ◌⊎◌, ◌↔◌, ℕ, ◌+◌, ◌*◌, ◌%◌, ◌<◌, ◌≤◌, max}
use Rattle.std.specs.Int.{bit_at}
use Rattle.zorder.specs.Dilated.{dilated}
use Rattle.zorder.proofs.CallerLemmas.{DiffersAt}

-- coordinate c of z is below that of low, or above that of high, and place t decides it
abbrev pub IsDecidedAt : ℕ → ℕ → ℕ → ℕ → ℕ → ℕ → Type 0
IsDecidedAt d z low high c t =
    DiffersAt t (dilated d c z) (dilated d c low) ⊎ DiffersAt t (dilated d c high) (dilated d c z)

-- the highest place that decides a coordinate of z to be out of its interval, or 0
pub record IsHighestDecision (d z low high place : ℕ) : Type 0 where
  pub highest : (c t : ℕ) → c < d → IsDecidedAt d z low high c t → t ≤ place
  pub attained : (place ≡ 0) ⊎ ((c : ℕ) × (c < d) × IsDecidedAt d z low high c place)

-- filled has a one just where bits has one at that place or some steps of d above it, which is in the same coordinate
abbrev pub IsFilledDown : ℕ → ℕ → ℕ → Type 0
IsFilledDown d bits filled = (i : ℕ) → (bit_at filled i ≡ 1) ↔ ((steps : ℕ) × (bit_at bits (i + steps * d) ≡ 1))

-- at the place i is a zero of z that may be a one: at or below the highest
-- place where z's coordinate differs from high's, which is above it
pub record HasRoom (d z high i : ℕ) : Type 0 where
  pub clear : bit_at z i ≡ 0
  pub top : ℕ
  pub differs : DiffersAt top (dilated d (i % d) z) (dilated d (i % d) high)
  pub within : i ≤ top

-- some code between low and high in each coordinate agrees with
-- z above the place i, where z has a zero and it has a one
pub record Opens (d z low high i : ℕ) : Type 0 where
  pub room : HasRoom d z high i
  pub undecided : (c t : ℕ) → c < d → IsDecidedAt d z low high c t → t ≤ i

-- each coordinate of the code is the greater of those of first and low
abbrev pub IsLeastFrom : ℕ → ℕ → ℕ → ℕ → Type 0
IsLeastFrom d first low code =
    (i : ℕ) → bit_at code i ≡ bit_at (max (dilated d (i % d) first) (dilated d (i % d) low)) i
