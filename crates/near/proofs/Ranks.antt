-- Pairs of a distance and a code, in order by one number.
use Rattle.std.proofs.Common.{◌≡◌, ⊎_elim, subst, ℕ, ◌+◌, ◌^◌, ◌<◌, ◌≤◌, Bool, true, false}
use Rattle.std.proofs.Common.{List, length, get_or, map, All, refl, sym, ap, ◌∙◌, arith}
use Rattle.std.specs.Ordering.{is_lt, nat_cmp, ordering_then}
use Rattle.std.specs.Cmp.{nat_cmp_is}
use Rattle.std.specs.declared.cmp.Ordering.{Ordering}
use Rattle.std.specs.declared.cmp.Ordering.TheVariants.{Less, Equal}
use Rattle.std.specs.List.Sorted.{IsNonDecreasing, IsNonDecreasingBy, IsSortedBy}
use Rattle.std.proofs.lemmas.Bool.{cases_lt}
use Rattle.std.proofs.lemmas.List.{get_or-map, length-map, same_lists}
use Rattle.near.specs.Kept.{rank}
use Rattle.near.specs.Nearest.{AreNearestFirst}
use Rattle.std.proofs.lemmas.List.Sorted.{IsNonDecreasingBy-from_all_adjacent}

abbrev pub HaveCodes : List (ℕ × ℕ) → Type 0
HaveCodes pairs = All (λ pair. pair.1 < 2 ^ 64) pairs

-- ---- two pairs

pub rank_rises : (p q : ℕ × ℕ) → p.1 < 2 ^ 64 → p.0 < q.0 → rank p ≤ rank q
unfolding rank
rank_rises p q small nearer = omega arith

pub rank_monotone : (p q : ℕ × ℕ) → p.0 ≤ q.0 → p.1 ≤ q.1 → rank p ≤ rank q
unfolding rank
rank_monotone p q nearer less = omega arith

pub rank_by_code : (p q : ℕ × ℕ) → p.0 ≡ q.0 → p.1 ≤ q.1 → rank p ≤ rank q
unfolding rank
rank_by_code p q same less = omega arith

pub distance_by_rank : (p q : ℕ × ℕ) → q.1 < 2 ^ 64 → rank p ≤ rank q → p.0 ≤ q.0
unfolding rank
distance_by_rank p q small order = omega arith

pub code_by_rank : (p q : ℕ × ℕ) → p.0 ≡ q.0 → rank p ≤ rank q → p.1 ≤ q.1
unfolding rank
code_by_rank p q same order = omega arith

pub same_by_rank : (p q : ℕ × ℕ) → p.1 < 2 ^ 64 → q.1 < 2 ^ 64 → rank p ≡ rank q → p ≡ q
unfolding rank
same_by_rank p q small small' same =
    let far : p.0 ≡ q.0 = omega arith in
    let code : p.1 ≡ q.1 = omega arith in
    let whole : (p.0, p.1) ≡ (q.0, q.1) = ap (λ (a : ℕ). (a, p.1)) far ∙ ap (λ (x : ℕ). (q.0, x)) code in
    whole

-- the test of a sort of pairs
abbrev pub stands_before : ℕ × ℕ → ℕ × ℕ → Bool
stands_before p q = is_lt (ordering_then (nat_cmp p.0 q.0) (nat_cmp p.1 q.1))

before_nearer : (p q : ℕ × ℕ) → p.0 < q.0 → stands_before p q ≡ true
before_nearer p q nearer =
    subst (λ (o : Ordering). is_lt (ordering_then o (nat_cmp p.1 q.1)) ≡ true) (nat_cmp_is p.0 q.0 Less nearer) refl

before_lesser : (p q : ℕ × ℕ) → p.0 ≡ q.0 → p.1 < q.1 → stands_before p q ≡ true
before_lesser p q same less =
    subst (λ (o : Ordering). is_lt (ordering_then o (nat_cmp p.1 q.1)) ≡ true) (nat_cmp_is p.0 q.0 Equal same)
    (subst (λ (o : Ordering). is_lt o ≡ true) (nat_cmp_is p.1 q.1 Less less) refl)

pub rank_from_test : (p q : ℕ × ℕ) → p.1 < 2 ^ 64 → stands_before q p ≡ false → rank p ≤ rank q
rank_from_test p q small test =
    ⊎_elim (λ nearer. absurd (neither (before_nearer q p nearer) test))
    (λ from. ⊎_elim (λ further. rank_rises p q small further)
    (λ to. let same : q.0 ≡ p.0 = omega arith in
    ⊎_elim (λ less. absurd (neither (before_lesser q p same less) test))
    (λ not_less. rank_by_code p q (sym same) not_less) (cases_lt q.1 p.1))
    (cases_lt p.0 q.0)) (cases_lt q.0 p.0)
  where
    neither : {b : Bool} → b ≡ true → b ≡ false → ⊥
    neither passes fails = cc

-- ---- lists of pairs

pub rank_from_sort : (pairs : List (ℕ × ℕ)) →
    HaveCodes pairs → IsSortedBy stands_before pairs → IsNonDecreasingBy rank pairs
rank_from_sort pairs small sorted = IsNonDecreasingBy-from_all_adjacent rank pairs
    (λ k d within. rank_from_test
    (get_or pairs k d) (get_or pairs (k + 1) d) (small k d (omega arith)) (sorted k d (omega arith) within))

pub first_from_rank : (pairs : List (ℕ × ℕ)) → HaveCodes pairs → IsNonDecreasingBy rank pairs → AreNearestFirst pairs
first_from_rank pairs small order = record {
  distances = λ i j d before within.
      distance_by_rank (get_or pairs i d) (get_or pairs j d) (small j d within) (order i j d before within);
  codes =
      λ i j d before within same. code_by_rank (get_or pairs i d) (get_or pairs j d) same (order i j d before within);
}

pub rank_from_first : (pairs : List (ℕ × ℕ)) → HaveCodes pairs → AreNearestFirst pairs → IsNonDecreasingBy rank pairs
rank_from_first pairs small first = λ i j d before within.
    ⊎_elim (λ nearer. rank_rises (get_or pairs i d) (get_or pairs j d) (small i d (omega arith)) nearer)
    (λ from. let same : (get_or pairs i d).0
    ≡ (get_or pairs j d).0 = omega (arith, first.distances i j d before within) in
    rank_by_code (get_or pairs i d) (get_or pairs j d) same (first.codes i j d before within same))
    (cases_lt (get_or pairs i d).0 (get_or pairs j d).0)

pub ranks_in_order : (pairs : List (ℕ × ℕ)) → IsNonDecreasingBy rank pairs → IsNonDecreasing (map rank pairs)
ranks_in_order pairs order = λ i j d before within.
    let long = length-map pairs rank in
    let e = get_or pairs 0 (0, 0) in
    omega (
      arith,
      get_or-map rank pairs i e d (omega arith),
      get_or-map rank pairs j e d (omega arith),
      order i j e before (omega arith),
    )

-- pairs in order are told by their numbers
pub same_by_ranks : (one two : List (ℕ × ℕ)) → HaveCodes one → HaveCodes two → map rank one ≡ map rank two → one ≡ two
same_by_ranks one two small small' same =
    let long : length one ≡ length two = sym (length-map one rank) ∙ ap length same ∙ length-map two rank in
    same_lists one two long (λ k d within.
    let within' : k < length two = omega arith in
    same_by_rank (get_or one k d) (get_or two k d) (small k d within) (small' k d within')
    (sym (get_or-map rank one k d 0 within)
    ∙ ap (λ (xs : List ℕ). get_or xs k 0) same ∙ get_or-map rank two k d 0 within'))
