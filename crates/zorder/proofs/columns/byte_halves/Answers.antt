-- The even places and the odd ones of the codes' bytes.
use Rattle.std.proofs.Common.{◌+◌, ◌*◌, [], ◌∷◌, refl, arith, w64}
use Rattle.std.proofs.lemmas.Simd.{below_from_Fits}
use Rattle.zorder.proofs.LaneLemmas.{picked_bytes}
use Rattle.zorder.proofs.columns.byte_halves.Goals as goal

pub returns-clause-even : goal.returns-clause-even
returns-clause-even c =
    picked_bytes c.args.codes
    (0 ∷ 2 ∷ 4 ∷ 6 ∷ 8 ∷ 10 ∷ 12 ∷ 14 ∷ 16 ∷ 18 ∷ 20 ∷ 22 ∷ 24 ∷ 26 ∷ 28 ∷ 30 ∷ []) (λ l. 2 * l)
    (below_from_Fits w64 c.args.codes c.fits-codes.1) refl refl (λ l h. omega arith)

pub returns-clause-odd : goal.returns-clause-odd
returns-clause-odd c =
    picked_bytes c.args.codes
    (1 ∷ 3 ∷ 5 ∷ 7 ∷ 9 ∷ 11 ∷ 13 ∷ 15 ∷ 17 ∷ 19 ∷ 21 ∷ 23 ∷ 25 ∷ 27 ∷ 29 ∷ 31 ∷ []) (λ l. 2 * l + 1)
    (below_from_Fits w64 c.args.codes c.fits-codes.1) refl refl (λ l h. omega arith)
