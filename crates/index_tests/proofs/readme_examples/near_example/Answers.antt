-- Two points of two coordinates.
use Rattle.std.proofs.Common.{ℕ, zero, suc, ◌<◌, [], ◌∷◌, get_or, arith, refl}
use Rattle.index_tests.proofs.readme_examples.near_example.Goals as goal

small : (k d : ℕ) → k < 4 → get_or (2 ∷ 0 ∷ 1 ∷ 3 ∷ []) k d < 4294967296
small zero d inside = omega arith
small (suc zero) d inside = omega arith
small (suc (suc zero)) d inside = omega arith
small (suc (suc (suc zero))) d inside = omega arith
small (suc (suc (suc (suc k)))) d inside = absurd (omega arith)

pub build-requires-clause-points : goal.build-requires-clause-points
build-requires-clause-points g c κs = record { count = 2; few = omega arith; whole = refl; range = small }
