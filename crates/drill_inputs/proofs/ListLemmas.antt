-- Lists that are made place by place.
use Rattle.std.proofs.Common.{◌≡◌, ℕ, ◌+◌, ◌<◌, List, [], ◌∷◌, ◌++◌, map, ap, sym, ◌∙◌, subst, zero-add}
use Rattle.std.specs.List.{range_with_len, All}
use Rattle.std.proofs.lemmas.List.FromFn.{length-map-range_with_len, get_or-map-range_with_len, map-range_with_len_more}

-- what holds of the item of each place holds of all items
pub All-made : {X : Type 0} (P : X → Type 0) (f : ℕ → X) (n : ℕ) →
    ((i : ℕ) → i < n → P (f i)) → All P (map f (range_with_len 0 n))
All-made P f n each k d below =
    let inside : k < n = subst (λ (m : ℕ). k < m) (length-map-range_with_len f 0 n) below in
    subst P (sym (get_or-map-range_with_len f 0 n k k d inside (zero-add k))) (each k inside)

-- one more item
pub made-more : {X : Type 0} (f : ℕ → X) (n : ℕ) (items : List X) (item : X) →
    items ≡ map f (range_with_len 0 n) → item ≡ f n → items ++ item ∷ [] ≡ map f (range_with_len 0 (n + 1))
made-more f n items item before same =
    ap (λ xs. xs ++ item ∷ []) before
    ∙ ap (λ x. map f (range_with_len 0 n) ++ x ∷ []) same ∙ sym (map-range_with_len_more f 0 n n (zero-add n))
