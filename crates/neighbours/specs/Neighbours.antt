-- The places in a list of codes, by how far their points are.
use Rattle.std.specs.Prelude.{◌≡◌, ℕ, suc, ◌+◌, ◌*◌, ◌/◌, ◌%◌, ◌^◌, List, [], ◌∷◌, ◌++◌, take}
use Rattle.std.specs.List.Sorted.{IsNonDecreasingBy, IsPermutation}
use Rattle.neighbours.specs.declared.neighbour.Neighbour.{Neighbour}

-- a place and a distance, of which the lowest 64 bits stand by themselves
abbrev pub neighbour_at : ℕ → ℕ → Neighbour
neighbour_at distance place =
    record { place = place; distance = distance % 2 ^ 64; distance_high = distance / 2 ^ 64 }

-- as one number: by distance, and of those that are equally far by place
abbrev pub rank_of : Neighbour → ℕ
rank_of one = (one.distance_high * 2 ^ 64 + one.distance) * 2 ^ 64 + one.place

-- all places of codes, the first of which stands at the place given, by how far each code is
unfoldable pub neighbours_from : (ℕ → ℕ) → ℕ → List ℕ → List Neighbour
neighbours_from far place [] = []
neighbours_from far place (z ∷ codes) = neighbour_at (far z) place ∷ neighbours_from far (suc place) codes

-- some of all places, each at most once and with its own distance, the nearest first
pub record AreSomePlaces (far : ℕ → ℕ) (codes : List ℕ) (neighbours : List Neighbour) : Type 0 where
  pub others : List Neighbour
  pub same : IsPermutation (neighbours_from far 0 codes) (neighbours ++ others)
  pub order : IsNonDecreasingBy rank_of neighbours

-- the nearest places: the first k of all in order, or all where there are fewer
abbrev pub AreNearestPlaces : (ℕ → ℕ) → List ℕ → ℕ → List Neighbour → Type 0
AreNearestPlaces far codes k neighbours =
    (all : List Neighbour) × IsPermutation (neighbours_from far 0 codes) all
    × IsNonDecreasingBy rank_of all × (neighbours ≡ take k all)
