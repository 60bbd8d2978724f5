-- Totals over all views, where one view is replaced, one is added, and all others have no worker.
use Rattle.std.proofs.Common.{◌≡◌, ℕ, zero, suc, ◌+◌, ◌<◌, ◌≤◌, List, [], ◌∷◌, ◌++◌, length}
use Rattle.std.proofs.Common.{get_or, set, sum_by, sym, ap, refl, ◌∙◌, subst, ⊎_elim, arith}
use mathlib.Core.Option.{some, some-injective, some-ne-none}
use lib.ListN.{get_elem?}
use Rattle.atomic_table.proofs.Lists.{at_set, at_snoc}
use Rattle.std.proofs.lemmas.List.Sums.{sum_by-set, sum_by-cons, sum_by_push, get_or-le-sum_by}

module _ {A : Type 0} where
  pub place_of : (l : List A) (i : ℕ) (a : A) → get_elem? l i ≡ some a → (i < length l) × (get_or l i a ≡ a)
  place_of [] i a e = absurd (some-ne-none a (sym e))
  place_of (x ∷ xs) zero a e = (omega arith, some-injective x a e)
  place_of (x ∷ xs) (suc i) a e = let rest = place_of xs i a e in (omega arith, rest.1)

  -- one element replaced
  pub total-set : (f : A → ℕ) (l : List A) (i : ℕ) (a b : A) →
      get_elem? l i ≡ some a → sum_by f (set l i b) + f a ≡ sum_by f l + f b
  total-set f l i a b e = let (inside, is) = place_of l i a e in omega (arith, sum_by-set f l i b a inside, ap f is)

  -- an element is at most the total
  pub total-least : (f : A → ℕ) (l : List A) (i : ℕ) (a : A) → get_elem? l i ≡ some a → f a ≤ sum_by f l
  total-least f l i a e = let (inside, is) = place_of l i a e in omega (arith, get_or-le-sum_by f l i a inside, ap f is)

  -- where f is at most g everywhere, so are the totals
  pub total-le : (f g : A → ℕ) (l : List A) →
      ((i : ℕ) (a : A) → get_elem? l i ≡ some a → f a ≤ g a) → sum_by f l ≤ sum_by g l
  total-le f g [] each = omega arith
  total-le f g (x ∷ xs) each =
      omega
      (arith, sum_by-cons f x xs, sum_by-cons g x xs, each zero x refl, total-le f g xs (λ i a e. each (suc i) a e))

  -- where the total of g is 0, and f is 0 wherever g is, the total of f is 0
  pub total-zero : (f g : A → ℕ) (l : List A) →
      ((i : ℕ) (a : A) → get_elem? l i ≡ some a → g a ≡ 0 → f a ≡ 0) → sum_by g l ≡ 0 → sum_by f l ≡ 0
  total-zero f g [] each none = refl
  total-zero f g (x ∷ xs) each none =
      let g_parts = sum_by-cons g x xs in
      let here = each zero x refl (omega arith) in
      omega (arith, sum_by-cons f x xs, total-zero f g xs (λ i a e. each (suc i) a e) (omega arith))

  -- one element cut in two
  pub total-split : (f : A → ℕ) (l : List A) (i : ℕ) (a b c : A) →
      get_elem? l i ≡ some a → f b + f c ≡ f a → sum_by f (set l i b ++ c ∷ []) ≡ sum_by f l
  total-split f l i a b c e parts = sum_by_push f (set l i b) c ∙ omega (arith, total-set f l i a b e)

  -- two elements made one, and what is left of the second
  pub total-join : (f : A → ℕ) (l : List A) (i j : ℕ) (a b w z : A) →
      get_elem? l i ≡ some a → get_elem? (set l i b) j ≡ some w → f b + f z ≡ f a + f w →
      sum_by f (set (set l i b) j z) ≡ sum_by f l
  total-join f l i j a b w z e other parts = omega (arith, total-set f l i a b e, total-set f (set l i b) j w z other)

  -- what holds of each element holds of each one after one is replaced
  pub each-set : (P : A → Type 0) (l : List A) (i : ℕ) (b : A) →
      ((j : ℕ) (a : A) → get_elem? l j ≡ some a → P a) → P b →
      (j : ℕ) (a : A) → get_elem? (set l i b) j ≡ some a → P a
  each-set P l i b each new j a e = ⊎_elim (λ here. subst P here.1 new) (λ there. each j a there.1) (at_set l i j b a e)

  pub each-snoc : (P : A → Type 0) (l : List A) (b : A) → ((j : ℕ) (a : A) → get_elem? l j ≡ some a → P a) → P b →
      (j : ℕ) (a : A) → get_elem? (l ++ b ∷ []) j ≡ some a → P a
  each-snoc P l b each new j a e = ⊎_elim (λ there. each j a there) (λ here. subst P here new) (at_snoc l b a j e)
