-- The test `is_inside` passes exactly for the codes that are inside.
use Rattle.std.proofs.Common.{◌≡◌, ℕ, zero, suc, ◌+◌, ◌<◌, ◌≤◌, Bool, true, false}
use Rattle.std.proofs.Common.{leb, slice_index, ⊎_elim, refl, subst, arith}
use Rattle.std.specs.List.{list_all, range_with_len}
use Rattle.std.proofs.lemmas.Bool.{and_parts, and_from, leb-true, le-leb, false_from_ne_true, cases_lt}
use Rattle.zorder.specs.declared.regions.Region.{Region}
use Rattle.zorder.specs.Codes.{coordinate}
use Rattle.zorder.specs.Regions.{IsInside}
use Rattle.boxes.specs.BoxAnswers.{is_between, is_inside}

-- a test that passes for n numbers from a on
all_from : (test : ℕ → Bool) (a n : ℕ) →
    ((c : ℕ) → a ≤ c → c < a + n → test c ≡ true) → list_all test (range_with_len a n) ≡ true
all_from test a zero each = refl
all_from test a (suc n) each =
    and_from (test a) (list_all test (range_with_len (a + 1) n)) (each a (omega arith) (omega arith))
    (all_from test (a + 1) n (λ c from to. each c (omega arith) (omega arith)))

each_from : (test : ℕ → Bool) (a n c : ℕ) →
    list_all test (range_with_len a n) ≡ true → a ≤ c → c < a + n → test c ≡ true
each_from test a zero c all from to = absurd (omega arith)
each_from test a (suc n) c all from to =
    let parts = and_parts (test a) (list_all test (range_with_len (a + 1) n)) all in
    ⊎_elim (λ less. each_from test (a + 1) n c parts.1 (omega arith) (omega arith))
    (λ here. let same : a ≡ c = omega arith in subst (λ (x : ℕ). test x ≡ true) same parts.0) (cases_lt a c)

pub inside_passes : (region : Region) (z : ℕ) → IsInside region z → is_inside region z ≡ true
unfolding is_inside
inside_passes region z inside =
    all_from (is_between region z) 0 region.d
    (λ c from to. let both = inside c (omega arith) in and_from _ _ (le-leb _ _ both.0) (le-leb _ _ both.1))

pub passes_inside : (region : Region) (z : ℕ) → is_inside region z ≡ true → IsInside region z
unfolding is_inside
passes_inside region z passes c within =
    let between = each_from (is_between region z) 0 region.d c passes (omega arith) (omega arith) in
    let both = and_parts (leb (slice_index region.low c) (coordinate region.d c z))
    (leb (coordinate region.d c z) (slice_index region.high c)) between in
    (leb-true _ _ both.0, leb-true _ _ both.1)

pub outside_fails : (region : Region) (z : ℕ) → (IsInside region z → ⊥) → is_inside region z ≡ false
outside_fails region z outside =
    false_from_ne_true (is_inside region z) (λ passes. outside (passes_inside region z passes))
