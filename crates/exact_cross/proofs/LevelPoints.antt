-- The points of an index's levels.
--
-- Main results: the points of a level are those of other levels,
-- where the levels below are the same; and levels that agree one by
-- one, where those below do, are one list (`AreLevelled-unique`), since the first level of one run is the last of both.
use Rattle.std.proofs.Common.{◌≡◌, inl, inr, ℕ, zero, suc, ◌+◌, ◌-◌, ◌<◌, ◌≤◌}
use Rattle.std.proofs.Common.{List, [], length, refl, sym, ap, ◌∙◌, arith, add-one}
use Rattle.std.proofs.lemmas.Bool.{cases_lt, cases_eq}
use Rattle.std.proofs.lemmas.List.{ext_get_or}
use Rattle.exact_cross.specs.declared.segment.Segment.{Segment}
use Rattle.exact_cross.specs.Points.{places}
use Rattle.exact_cross.specs.IndexLevels.{first_xs, level_at, level_xs, level_ys, AreLevelled}

pub level_xs-base : (xs : List ℕ) (levels : List (List Segment)) → level_xs xs levels 0 ≡ xs
unfolding level_xs
level_xs-base xs levels = refl

pub level_xs-above : (xs : List ℕ) (levels : List (List Segment)) (i : ℕ) →
    level_xs xs levels (i + 1) ≡ first_xs (level_xs xs levels i) (level_at levels i)
unfolding level_xs
level_xs-above xs levels i = rw add-one refl

pub level_ys-base : (ys : List ℕ) (levels : List (List Segment)) → level_ys ys levels 0 ≡ ys
unfolding level_ys
level_ys-base ys levels = refl

pub level_ys-above : (ys : List ℕ) (levels : List (List Segment)) (i : ℕ) →
    level_ys ys levels (i + 1) ≡ places (length (level_at levels i))
unfolding level_ys
level_ys-above ys levels i = rw add-one refl

pub level_xs-same : (xs : List ℕ) (levels others : List (List Segment)) (i : ℕ) →
    ((k : ℕ) → k < i → level_at levels k ≡ level_at others k) → level_xs xs levels i ≡ level_xs xs others i
unfolding level_xs
level_xs-same xs levels others zero same = refl
level_xs-same xs levels others (suc i) same =
    ap (λ (below : List ℕ). first_xs below (level_at levels i))
    (level_xs-same xs levels others i (λ k less. same k (omega arith)))
    ∙ ap (first_xs (level_xs xs others i)) (same i (omega arith))

pub level_ys-same : (ys : List ℕ) (levels others : List (List Segment)) (i : ℕ) →
    ((k : ℕ) → k < i → level_at levels k ≡ level_at others k) → level_ys ys levels i ≡ level_ys ys others i
unfolding level_ys
level_ys-same ys levels others zero same = refl
level_ys-same ys levels others (suc i) same =
    ap (λ (segments : List Segment). places (length segments)) (same i (omega arith))

-- ---- one list of levels

levels_agree : (one two : List (List Segment)) (n : ℕ) →
    ((i : ℕ) → i < n → ((k : ℕ) → k < i → level_at one k ≡ level_at two k) → level_at one i ≡ level_at two i) →
    (i : ℕ) → i < n → level_at one i ≡ level_at two i
levels_agree one two zero step i inside = absurd (omega arith)
levels_agree one two (suc n) step i inside =
    let below = levels_agree one two n (λ k less. step k (omega arith)) in
    elim (cases_eq i n) [
      | inr apart ↦ below i (omega arith)
      | inl same ↦ step i inside (λ k less. below k (omega arith))
    ]

-- the levels of one aren't fewer: its last one has one run, and so it is the last of the other
no_fewer : (One Two : ℕ → Type 0) (points : ℕ) (one two : List (List Segment)) →
    AreLevelled One points one → AreLevelled Two points two →
    ((i : ℕ) → i < length one → i < length two → level_at one i ≡ level_at two i) → length two ≤ length one
no_fewer One Two points one two first second agree = elim (cases_lt (length one) (length two)) [
  | inr enough ↦ enough
  | inl less ↦ elim (cases_eq points 0) [
    | inl none ↦ absurd (omega (arith, second.none none))
    | inr some ↦
        let last = length one - 1 in
        let at_last : last + 1 ≡ length one = omega (arith, first.some (omega arith)) in
        absurd (second.others last
        (omega arith) (ap length (sym (agree last (omega arith) (omega arith))) ∙ first.last last at_last))
  ]
]

pub AreLevelled-unique : (One Two : ℕ → Type 0) (points : ℕ) (one two : List (List Segment)) →
    AreLevelled One points one → AreLevelled Two points two →
    ((i : ℕ) → One i → Two i → ((k : ℕ) → k < i → level_at one k ≡ level_at two k) → level_at one i ≡ level_at two i) →
    one ≡ two
AreLevelled-unique One Two points one two first second step =
    ext_get_or [] one two counts (λ i inside. agree i inside (omega (arith, counts)))
  where
    agree : (i : ℕ) → i < length one → i < length two → level_at one i ≡ level_at two i
    agree i inside also = levels_agree one two
        (i + 1) (λ k less. step k (first.each k (omega arith)) (second.each k (omega arith))) i (omega arith)

    counts : length one ≡ length two
    counts =
        omega (
          arith,
          no_fewer One Two points one two first second agree,
          no_fewer Two One points two one second first (λ i inside also. sym (agree i also inside)),
        )
