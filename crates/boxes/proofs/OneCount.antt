-- There is one number of numbers with a property, and one list of sorted codes.
use Rattle.std.proofs.Common.{◌≡◌, ◌⊎◌, ⊎_elim, inl, inr, ℕ, zero, suc, ◌<◌, ◌≤◌, ltb, if◌then◌else◌}
use Rattle.std.proofs.Common.{List, [], ◌∷◌, length, get_or, refl, sym, ◌∙◌, subst, arith}
use Rattle.std.specs.Prelude.{Contains}
use Rattle.std.specs.List.{AllPairs}
use Rattle.std.specs.List.Sorted.{IsNonDecreasing}
use Rattle.std.proofs.lemmas.Bool.{cases_lt, cases_order}
use Rattle.std.proofs.lemmas.List.{ext_get_or}
use Rattle.std.proofs.lemmas.List.Kept.{AllPairs-from_increasing}
use Rattle.std.proofs.lemmas.List.Sorted.{length_permutation, sum_by-IsPermutation}
use Rattle.window_search.specs.Searches.{lb}
use Rattle.window_search.proofs.CallerLemmas.{IsLowerBound-lb}
use Rattle.boxes.specs.Places.{IsCountOf}
use Rattle.boxes.specs.PointCodes.{codes_of, AreSortedCodes}

-- each member is below the later ones
abbrev Rises : List ℕ → Type 0
Rises xs = AllPairs (λ x y. x < y) xs

rest_rises : (x : ℕ) (xs : List ℕ) → Rises (x ∷ xs) → Rises xs
rest_rises x xs rises = λ i j d before within. rises (suc i) (suc j) d (omega arith) (omega arith)

first_least : (x : ℕ) (xs : List ℕ) (z : ℕ) → Rises (x ∷ xs) → Contains xs z → x < z
first_least x xs z rises has =
    subst (λ (v : ℕ). x < v) has.2 (rises 0 (suc has.0) z (omega arith) (omega (arith, has.1)))

first_or_rest : (x : ℕ) (xs : List ℕ) (z : ℕ) → Contains (x ∷ xs) z → (x ≡ z) ⊎ Contains xs z
first_or_rest x xs z (zero, within, same) = inl same
first_or_rest x xs z (suc k, within, same) = inr (k, omega arith, same)

has_rest : (x : ℕ) (xs : List ℕ) (z : ℕ) → Contains xs z → Contains (x ∷ xs) z
has_rest x xs z has = (suc has.0, omega (arith, has.1), has.2)

-- of two lists that rise and have the same first member, what is in the rest of one is in the rest of the other
in_rest : (x y : ℕ) (xs ys : List ℕ) → x ≡ y →
    Rises (x ∷ xs) → ((z : ℕ) → Contains (x ∷ xs) z → Contains (y ∷ ys) z) → (z : ℕ) → Contains xs z → Contains ys z
in_rest x y xs ys same rises among z has =
    ⊎_elim (λ first. absurd (omega (arith, first, same, first_least x xs z rises has)))
    (λ rest. rest) (first_or_rest y ys z (among z (has_rest x xs z has)))

-- lists that rise and have the same members are equally long
same_length : (xs ys : List ℕ) → Rises xs → Rises ys →
    ((z : ℕ) → Contains xs z → Contains ys z) → ((z : ℕ) → Contains ys z → Contains xs z) → length xs ≡ length ys
same_length [] [] one two there back = refl
same_length [] (y ∷ ys) one two there back = let has = back y (0, omega arith, refl) in absurd (omega (arith, has.1))
same_length (x ∷ xs) [] one two there back = let has = there x (0, omega arith, refl) in absurd (omega (arith, has.1))
same_length (x ∷ xs) (y ∷ ys) one two there back =
    let above : x ≤ y = ⊎_elim (λ same. omega (arith, same))
    (λ rest. omega (arith, first_least x xs y one rest)) (first_or_rest x xs y (back y (0, omega arith, refl))) in
    let below : y ≤ x = ⊎_elim (λ same. omega (arith, same))
    (λ rest. omega (arith, first_least y ys x two rest)) (first_or_rest y ys x (there x (0, omega arith, refl))) in
    let same : x ≡ y = omega arith in
    let rest = same_length xs ys (rest_rises x xs one)
    (rest_rises y ys two) (in_rest x y xs ys same one there) (in_rest y x ys xs (sym same) two back) in
    omega (arith, rest)

pub one_count : (P : ℕ → Type 0) (n one two : ℕ) → IsCountOf P n one → IsCountOf P n two → one ≡ two
one_count P n one two first second =
    first.number
    ∙ same_length first.places second.places
    (AllPairs-from_increasing first.places first.rises) (AllPairs-from_increasing second.places second.rises)
    (λ z has. (second.exact z).1 ((first.exact z).0 has)) (λ z has. (first.exact z).1 ((second.exact z).0 has))
    ∙ sym second.number

-- of sorted lists of the same numbers none has a lesser number at a place
not_less : (xs ys : List ℕ) (i : ℕ) → IsNonDecreasing xs → IsNonDecreasing ys →
    ((q : ℕ) → lb xs q ≡ lb ys q) → i < length xs → i < length ys → get_or xs i 0 < get_or ys i 0 → ⊥
not_less xs ys i up up' same within within' less =
    let q = get_or ys i 0 in
    let one = IsLowerBound-lb xs q up in
    let two = IsLowerBound-lb ys q up' in
    let beyond : i < lb xs q =
    ⊎_elim (λ before. before) (λ from. absurd (omega (arith, one.from i from within))) (cases_lt i (lb xs q)) in
    omega (arith, two.before i (omega (arith, same q)))

-- sorted lists of the same numbers are one
pub same_sorted : (xs ys : List ℕ) →
    IsNonDecreasing xs → IsNonDecreasing ys → length xs ≡ length ys → ((q : ℕ) → lb xs q ≡ lb ys q) → xs ≡ ys
same_sorted xs ys up up' long same = ext_get_or 0 xs ys long (λ i within.
    let within' : i < length ys = omega arith in
    ⊎_elim (λ equal. equal)
    (λ differ. ⊎_elim (λ less. absurd (not_less xs ys i up up' same within within' less))
    (λ more. absurd (not_less ys xs i up' up (λ q. sym (same q)) within' within more)) differ)
    (cases_order (get_or xs i 0) (get_or ys i 0)))

pub one_sort : (d : ℕ) (coords one two : List ℕ) → AreSortedCodes d coords one → AreSortedCodes d coords two → one ≡ two
one_sort d coords one two first second =
    let from = codes_of d coords in
    same_sorted one two first.never_falls second.never_falls
    (length_permutation from one first.same ∙ sym (length_permutation from two second.same))
    (λ q. let f : ℕ → ℕ = λ key. if ltb key q then 1 else 0 in
    sum_by-IsPermutation f from one first.same ∙ sym (sum_by-IsPermutation f from two second.same))
