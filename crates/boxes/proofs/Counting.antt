-- Counting the numbers below n that have a property, one number or one stretch at a time; and that there is one count.
use Rattle.std.proofs.Common.{◌≡◌, ⊎_elim, ℕ, ◌+◌, ◌<◌, ◌≤◌, [], ◌∷◌, ◌++◌, length, get_or, refl, subst, arith}
use Rattle.std.specs.Prelude.{Contains}
use Rattle.std.proofs.lemmas.Bool.{cases_lt}
use Rattle.std.proofs.lemmas.List.{length_push, get_or_push, get_or_append_left}
use Rattle.std.proofs.lemmas.List.Elements.{Contains-push, Contains-push_cases, Contains-append_left, Contains-get_or}
use Rattle.boxes.specs.Places.{IsCountOf}

module _ (P : ℕ → Type 0) where
  pub count_none : IsCountOf P 0 0
  count_none = record {
    places = [];
    rises = λ k inside. absurd (omega arith);
    exact = λ j. (λ has. absurd (omega (arith, has.1)), λ both. absurd (omega (arith, both.0)));
    number = refl;
  }

  -- the numbers from n up to m don't have it
  pub count_skip : (n m count : ℕ) →
      n ≤ m → ((j : ℕ) → n ≤ j → j < m → P j → ⊥) → IsCountOf P n count → IsCountOf P m count
  count_skip n m count up none is = record {
    places = is.places;
    rises = is.rises;
    exact = λ j. (
      λ has. let both = (is.exact j).0 has in (omega (arith, both.0), both.1),
      λ both.
          (is.exact j).1 (⊎_elim (λ less. less) (λ from. absurd (none j from both.0 both.1)) (cases_lt j n), both.1),
    );
    number = is.number;
  }

  -- n has it
  pub count_more : (n count : ℕ) → P n → IsCountOf P n count → IsCountOf P (n + 1) (count + 1)
  count_more n count here is = record {
    places = is.places ++ n ∷ [];
    rises = λ k inside. rises_more k inside;
    exact = λ j. (
      λ has. ⊎_elim (λ before. let both = (is.exact j).0 before in (omega (arith, both.0), both.1))
          (λ same. (omega (arith, same), subst P same here)) (Contains-push_cases is.places n j has),
      λ both. ⊎_elim (λ less. Contains-append_left is.places (n ∷ []) j ((is.exact j).1 (less, both.1)))
          (λ from. let same : n ≡ j = omega (arith, both.0) in
          subst (λ (x : ℕ). Contains (is.places ++ n ∷ []) x) same (Contains-push is.places n))
          (cases_lt j n),
    );
    number = omega (arith, is.number, length_push is.places n);
  }
    where
      rises_more : (k : ℕ) → k + 1 < length (is.places ++ n ∷ []) →
          get_or (is.places ++ n ∷ []) k 0 < get_or (is.places ++ n ∷ []) (k + 1) 0
      rises_more k inside =
          let left : get_or (is.places ++ n ∷ []) k 0 ≡ get_or is.places k 0 =
          get_or_append_left is.places (n ∷ []) 0 k (omega (arith, length_push is.places n)) in
          ⊎_elim
          (λ less. omega (arith, left, get_or_append_left is.places (n ∷ []) 0 (k + 1) less, is.rises k less))
          (λ last.
          let there : length is.places ≡ k + 1 = omega (arith, length_push is.places n) in
          let below = (is.exact (get_or is.places k 0)).0 (Contains-get_or is.places k 0 (omega arith)) in
          omega (arith, left, get_or_push is.places n 0 (k + 1) there, below.0))
          (cases_lt (k + 1) (length is.places))
