-- A greedy cover is a cover than which none has fewer runs.
use Rattle.std.proofs.Common.{ℕ, List, [], ◌∷◌, arith}
use Rattle.exact_cross.specs.Points.{Points}
use Rattle.exact_cross.specs.Covers.{run_end, IsCover, IsGreedy}
use Rattle.exact_cross.specs.Checked.{IsLeastCover}
use Rattle.exact_cross.proofs.GreedyLemmas.{IsGreedy-least}

pub IsCover-from_greedy : (p : Points) (eps to : ℕ) (starts : List ℕ) (from : ℕ) →
    IsGreedy p eps from to starts → IsCover p eps from to starts
IsCover-from_greedy p eps to [] from greedy = greedy
IsCover-from_greedy p eps to (start ∷ later) from greedy =
    (greedy.0, greedy.1, greedy.2.fits, IsCover-from_greedy p eps to later (run_end later to) greedy.3)

pub IsLeastCover-from_greedy : (p : Points) (eps from to : ℕ) (starts : List ℕ) →
    IsGreedy p eps from to starts → IsLeastCover p eps from to starts
IsLeastCover-from_greedy p eps from to starts greedy = record {
  cover = IsCover-from_greedy p eps to starts from greedy;
  least = λ others cover. IsGreedy-least p eps to starts others from from (omega arith) greedy cover;
}
