-- The steep pair of a run is one pair, and so is the flat one.
--
-- Of two that are both least, each comes first before the other, so that their places are the same.
use Rattle.std.proofs.Common.{◌≡◌, ℕ, arith}
use Rattle.exact_cross.specs.Points.{Points}
use Rattle.exact_cross.specs.Steep.{ComesFirst, IsSteepPair, IsFlatPair}

-- of two pairs that each come first, both are one
ComesFirst-antisymm : (a b c d : ℕ) → ComesFirst a b c d → ComesFirst c d a b → (a ≡ c) × (b ≡ d)
ComesFirst-antisymm a b c d one two = omega arith

pub IsSteepPair-unique : (p : Points) (eps s e a b c d : ℕ) →
    IsSteepPair p eps s e a b → IsSteepPair p eps s e c d → (a ≡ c) × (b ≡ d)
IsSteepPair-unique p eps s e a b c d one two =
    ComesFirst-antisymm a b c d
    (one.first c d two.pair (two.least a b one.pair)) (two.first a b one.pair (one.least c d two.pair))

pub IsFlatPair-unique : (p : Points) (eps s e a b c d : ℕ) →
    IsFlatPair p eps s e a b → IsFlatPair p eps s e c d → (a ≡ c) × (b ≡ d)
IsFlatPair-unique p eps s e a b c d one two =
    ComesFirst-antisymm a b c d
    (one.first c d two.pair (two.greatest a b one.pair)) (two.first a b one.pair (one.greatest c d two.pair))
