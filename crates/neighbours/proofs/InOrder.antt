-- Lists in order by a number of each element: joined, and that each list can be brought in order.
use Rattle.std.proofs.Common.{⊎_elim, ℕ, zero, suc, ◌<◌, ◌≤◌, List, [], ◌∷◌, ◌++◌, length, get_or, All, arith}
use Rattle.std.specs.List.Sorted.{IsNonDecreasingBy, IsPermutation}
use Rattle.std.proofs.lemmas.Bool.{cases_lt}
use Rattle.std.proofs.lemmas.List.Elements.{All-append, All-cons, All-head, All-tail, All-weaker}
use Rattle.std.proofs.lemmas.List.Sorted.{All-permutation, IsNonDecreasingBy-short, IsPermutation-cons}
use Rattle.std.proofs.lemmas.List.Sorted.{IsPermutation-middle, IsPermutation-refl, IsPermutation-trans}

module _ {X : Type 0} (n : X → ℕ) where
  first_least : (x : X) (xs : List X) → IsNonDecreasingBy n (x ∷ xs) → All (λ y. n x ≤ n y) xs
  first_least x xs order = λ k d within. order 0 (suc k) d (omega arith) (omega arith)

  rest_in_order : (x : X) (xs : List X) → IsNonDecreasingBy n (x ∷ xs) → IsNonDecreasingBy n xs
  rest_in_order x xs order = λ i j d before within. order (suc i) (suc j) d (omega arith) (omega arith)

  cons_at : (x : X) (xs : List X) → All (λ y. n x ≤ n y) xs → IsNonDecreasingBy n xs
      → (i j : ℕ) (d : X) → i ≤ j → j < length (x ∷ xs) → n (get_or (x ∷ xs) i d) ≤ n (get_or (x ∷ xs) j d)
  cons_at x xs least order zero zero d before within = omega arith
  cons_at x xs least order zero (suc j) d before within = least j d (omega arith)
  cons_at x xs least order (suc i) zero d before within = absurd (omega arith)
  cons_at x xs least order (suc i) (suc j) d before within = order i j d (omega arith) (omega arith)

  cons_in_order : (x : X) (xs : List X) →
      All (λ y. n x ≤ n y) xs → IsNonDecreasingBy n xs → IsNonDecreasingBy n (x ∷ xs)
  cons_in_order x xs least order = λ i j d before within. cons_at x xs least order i j d before within

  -- a list with none above the bound, and one with none below it
  pub append_in_order : (bound : ℕ) (xs ys : List X) → IsNonDecreasingBy n xs → IsNonDecreasingBy n ys
      → All (λ x. n x ≤ bound) xs → All (λ y. bound ≤ n y) ys → IsNonDecreasingBy n (xs ++ ys)
  append_in_order bound [] ys one two below above = two
  append_in_order bound (x ∷ xs) ys one two below above =
      let first = All-head (λ z. n z ≤ bound) x xs below in
      cons_in_order x (xs ++ ys)
      (All-append (λ y. n x ≤ n y) xs ys
      (first_least x xs one) (All-weaker (λ y. bound ≤ n y) (λ y. n x ≤ n y) (λ y from. omega arith) ys above))
      (append_in_order bound xs ys (rest_in_order x xs one) two (All-tail (λ z. n z ≤ bound) x xs below) above)

  -- one more element finds its place
  put_in_order : (x : X) (ys : List X) →
      IsNonDecreasingBy n ys → (zs : List X) × IsPermutation (x ∷ ys) zs × IsNonDecreasingBy n zs
  put_in_order x [] order = (x ∷ [], IsPermutation-refl (x ∷ []), IsNonDecreasingBy-short n (x ∷ []) (omega arith))
  put_in_order x (y ∷ ys) order =
      let put = put_in_order x ys (rest_in_order y ys order) in
      ⊎_elim
      (λ above. (
        y ∷ put.0,
        IsPermutation-trans (x ∷ y ∷ ys)
            (y ∷ x ∷ ys) (y ∷ put.0) (IsPermutation-middle (x ∷ []) y ys) (IsPermutation-cons y (x ∷ ys) put.0 put.1),
        cons_in_order y put.0
            (All-permutation (λ z. n y ≤ n z)
            (x ∷ ys) put.0 put.1 (All-cons (λ z. n y ≤ n z) x ys (omega arith) (first_least y ys order))) put.2,
      ))
      (λ least. (
        x ∷ y ∷ ys,
        IsPermutation-refl (x ∷ y ∷ ys),
        cons_in_order x (y ∷ ys)
            (All-cons (λ z. n x ≤ n z) y ys least
            (All-weaker (λ z. n y ≤ n z) (λ z. n x ≤ n z) (λ z from. omega arith) ys (first_least y ys order)))
            order,
      ))
      (cases_lt (n y) (n x))

  -- each list can be brought in order
  pub in_order_exists : (xs : List X) → (ys : List X) × IsPermutation xs ys × IsNonDecreasingBy n ys
  in_order_exists [] = ([], IsPermutation-refl [], IsNonDecreasingBy-short n [] (omega arith))
  in_order_exists (x ∷ xs) =
      let rest = in_order_exists xs in
      let whole = put_in_order x rest.0 rest.2 in (
        whole.0,
        IsPermutation-trans (x ∷ xs) (x ∷ rest.0) whole.0 (IsPermutation-cons x xs rest.0 rest.1) whole.1,
        whole.2,
      )
