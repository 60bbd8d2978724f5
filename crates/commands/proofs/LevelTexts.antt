-- What is told of levels, from a level on: the first of them, and those that follow.
use Rattle.std.proofs.Common.{◌≡◌, ℕ, ◌+◌, ◌<◌, ◌≤◌, List, [], ◌∷◌, ◌++◌, get_or}
use Rattle.std.proofs.Common.{drop, sym, ap, ◌∙◌, add-one, drop-cons, arith}
use Rattle.std.specs.List.{flat_map}
use Rattle.std.proofs.lemmas.List.{drop_all}
use Rattle.exact_cross.specs.Points.{places}
use Rattle.exact_cross.proofs.CallerLemmas.{length-places, slice_index-places}

places_from : (n i : ℕ) → i < n → drop i (places n) ≡ i ∷ drop (i + 1) (places n)
places_from n i there =
    drop-cons (places n) i 0 (omega (arith, length-places n))
    ∙ ap (λ (k : ℕ). get_or (places n) i 0 ∷ drop k (places n)) (sym (add-one i))
    ∙ ap (λ (k : ℕ). k ∷ drop (i + 1) (places n)) (slice_index-places n i there)

pub told_from : (told : ℕ → List (List ℕ)) (n i : ℕ) → i < n →
    flat_map told (drop i (places n)) ≡ told i ++ flat_map told (drop (i + 1) (places n))
told_from told n i there = ap (flat_map told) (places_from n i there)

pub told_end : (told : ℕ → List (List ℕ)) (n i : ℕ) → n ≤ i → flat_map told (drop i (places n)) ≡ []
told_end told n i behind = ap (flat_map told) (drop_all i (places n) (omega (arith, length-places n)))
