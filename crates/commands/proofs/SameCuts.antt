-- Lists that rise strictly are known by their members, so points are cut into so many pieces at one list of places.
use Rattle.std.proofs.Common.{◌≡◌, ℕ, zero, suc, ◌+◌, ◌<◌, ◌≤◌, List, [], ◌∷◌, Contains, refl, ap₂, arith}
use Rattle.std.specs.List.Sorted.{IsStrictlyIncreasing}
use Rattle.std.proofs.lemmas.Grind.{get_or_default_zero}
use Rattle.exact_cross.proofs.CallerLemmas.{slice_index-rises}
use Rattle.piece_join.specs.Cuttings.{AreCutsAt}

-- the first member is the least
least : (x : ℕ) (xs : List ℕ) → IsStrictlyIncreasing (x ∷ xs) → (y : ℕ) → Contains (x ∷ xs) y → x ≤ y
least x xs rise y (zero, inside, is) = omega (arith, is)
least x xs rise y (suc k, inside, is) =
    omega (
      arith,
      slice_index-rises (x ∷ xs) 0 (suc k) rise (omega arith) inside,
      get_or_default_zero xs k y (omega (arith, inside)),
      is,
    )

-- and those behind it are above it
above : (x : ℕ) (xs : List ℕ) → IsStrictlyIncreasing (x ∷ xs) → (y : ℕ) → Contains xs y → x < y
above x xs rise y (k, inside, is) =
    omega (
      arith,
      slice_index-rises (x ∷ xs) 0 (suc k) rise (omega arith) (omega (arith, inside)),
      get_or_default_zero xs k y inside,
      is,
    )

rest_rises : (x : ℕ) (xs : List ℕ) → IsStrictlyIncreasing (x ∷ xs) → IsStrictlyIncreasing xs
rest_rises x xs rise =
    λ k inside. slice_index-rises (x ∷ xs) (suc k) (suc (k + 1)) rise (omega arith) (omega (arith, inside))

-- a member above the first one is one of the rest
of_rest : (x : ℕ) (xs : List ℕ) (y : ℕ) → x < y → Contains (x ∷ xs) y → Contains xs y
of_rest x xs y below (zero, inside, is) = absurd (omega (arith, below, is))
of_rest x xs y below (suc k, inside, is) = (k, omega (arith, inside), is)

to_whole : (x : ℕ) (xs : List ℕ) (y : ℕ) → Contains xs y → Contains (x ∷ xs) y
to_whole x xs y (k, inside, is) = (suc k, omega (arith, inside), is)

same_members : (xs ys : List ℕ) → IsStrictlyIncreasing xs → IsStrictlyIncreasing ys →
    ((y : ℕ) → Contains xs y → Contains ys y) → ((y : ℕ) → Contains ys y → Contains xs y) → xs ≡ ys
same_members [] [] rise rise' to back = refl
same_members [] (y ∷ ys) rise rise' to back = absurd (omega (arith, (back y (0, omega arith, refl)).1))
same_members (x ∷ xs) [] rise rise' to back = absurd (omega (arith, (to x (0, omega arith, refl)).1))
same_members (x ∷ xs) (y ∷ ys) rise rise' to back =
    let low = least y ys rise' x (to x (0, omega arith, refl)) in
    let high = least x xs rise y (back y (0, omega arith, refl)) in
    let same : x ≡ y = omega (arith, low, high) in
    ap₂ (λ (z : ℕ) (zs : List ℕ). z ∷ zs) same (same_members xs ys (rest_rises x xs rise) (rest_rises y ys rise')
    (λ z there. of_rest y ys z (omega (arith, same, above x xs rise z there)) (to z (to_whole x xs z there)))
    (λ z there. of_rest x xs z (omega (arith, same, above y ys rise' z there)) (back z (to_whole y ys z there))))

pub AreCutsAt-unique : (m n : ℕ) (place : ℕ → ℕ) (one two : List ℕ) →
    AreCutsAt m n place one → AreCutsAt m n place two → one ≡ two
AreCutsAt-unique m n place one two first second =
    same_members one two first.are.rise second.are.rise
    (λ y there. (second.each y).1 ((first.each y).0 there)) (λ y there. (first.each y).1 ((second.each y).0 there))
