-- The text of `hints`: numbers that say where lookups look first, as bytes.
use Rattle.std.specs.Prelude.{◌≡◌, ℕ, ◌+◌, ◌<◌, ◌^◌, List, map, All}
use Rattle.std.specs.Int.{w64, to_le_bytes}
use Rattle.hints.specs.Leads.{HaveLeastLines}
use Rattle.hints.specs.Lookups.{LeadsWithin}

-- a hint's eight bytes, the lowest first
unfoldable pub hint_bytes : ℕ → List ℕ
hint_bytes hint = to_le_bytes w64 hint

-- each hint as one piece
abbrev pub hint_pieces : List ℕ → List (List ℕ)
hint_pieces hints = map hint_bytes hints

-- some hints of 64 bits that lead to within ε + 2 in the keys,
-- with as many lines as a least cover of the keys' points has runs
pub record AreHints (keys : List ℕ) (eps : ℕ) (pieces : List (List ℕ)) : Type 0 where
  pub hints : List ℕ
  pub small : All (λ hint. hint < 2 ^ 64) hints
  pub lead : LeadsWithin hints keys (eps + 2)
  pub least : HaveLeastLines keys eps hints
  pub told : pieces ≡ hint_pieces hints
