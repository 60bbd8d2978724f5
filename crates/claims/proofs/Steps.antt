-- Each kind of step keeps the rule of the claim word.
use Rattle.std.proofs.Common.{◌≡◌, ◌≢◌, ◌==◌, if◌then◌else◌, ℕ, zero, suc, ◌+◌, ◌%◌, ◌^◌, ◌<◌, ◌≤◌, nat_lt}
use Rattle.std.proofs.Common.{List, [], ◌∷◌, ◌++◌, length, slice_index, set, min, sum_by, sym, ap, refl}
use Rattle.std.proofs.Common.{◌∙◌, subst, inl, inr, arith, length-append, length-set, get_or-set_same}
use mathlib.Core.Option.{none, some, some-injective}
use lib.ListN.{get_elem?}
use Rattle.std.proofs.lemmas.Bool.{cases_lt, cases_eq, cond-true, cond-false, lt-ltb, le-ltb, eq-eqb, ne_eqb}
use Rattle.std.proofs.lemmas.List.Sums.{sum_by-cons, sum_by-append, get_or-le-sum_by}
use Rattle.std.proofs.Math.Nat.{mod-eq_of_lt}
use Rattle.atomic_table.specs.Table.{State, Me, step, keeps, stepped, Allows, Splits, Joins, opening}
use Rattle.atomic_table.proofs.Lists.{set_else}
use Rattle.claims.specs.declared.views.View.{View}
use Rattle.claims.specs.declared.views.Plan.{Plan}
use Rattle.claims.specs.Claims.{times, once_below}
use Rattle.claims.specs.Views.{IsAllowed, AreClaimed, drew, view_of, without_one, one_of, joined, spent}
use Rattle.claims.proofs.Totals.{total-set, total-least, total-le, total-zero}
use Rattle.claims.proofs.Totals.{total-split, total-join, each-set, each-snoc}

pub once-yes : (x n : ℕ) → x < n → once_below x n ≡ 1
once-yes x n below = cond-true (nat_lt x n) 1 0 (lt-ltb x n below)

pub once-no : (x n : ℕ) → n ≤ x → once_below x n ≡ 0
once-no x n from = cond-false (nat_lt x n) 1 0 (le-ltb x n from)

times-append : (x : ℕ) (a b : List ℕ) → times x (a ++ b) ≡ times x a + times x b
times-append x a b = sum_by-append (λ n. if n == x then 1 else 0) a b

-- make: nothing is drawn, and one seat has all workers
pub makes : (plan : Plan) →
    plan.pieces + plan.workers + 1 < 2 ^ 64 → 1 ≤ plan.workers → AreClaimed plan (opening (0 ∷ []) [] (view_of plan))
makes plan small some_worker = record {
  small = small;
  word = refl;
  taken = refl;
  below = omega arith;
  once = λ x. sym (once-no x (min 0 plan.pieces) (omega arith));
  seated = omega arith;
  each = each;
}
  where
    first : IsAllowed plan.pieces (view_of plan)
    first = record { marks = omega arith; pieces = λ h. refl; idle = λ h. refl }

    each : (id : ℕ) (v : View) → get_elem? (view_of plan ∷ []) id ≡ some v → IsAllowed plan.pieces v
    each zero v e = subst (IsAllowed plan.pieces) (some-injective (view_of plan) v e) first
    each (suc id) v e = absurd (cc e)

-- split: one worker gets a seat of its own
pub splits : (plan : Plan) (id : ℕ) (v : View) →
    1 < v.workers → v.ended ≡ 0 → v.drawn ≡ [] → Splits (AreClaimed plan) id v (without_one v) (one_of v)
splits plan id v more live fresh s rule at =
    let here = rule.each id v at in
    let same = λ (f : View → ℕ) (parts : f (without_one v) + f (one_of v) ≡ f v).
    total-split f s.views id v (without_one v) (one_of v) at parts in
    let drawn = same (λ v. length v.drawn) (omega arith) in
    let marks = same (λ v. v.ended) (omega arith) in
    record {
      small = rule.small;
      word = rule.word;
      taken = omega (arith, rule.taken);
      below = drawn ∙ rule.below;
      once = λ x. same (λ v. times x v.drawn) (omega arith) ∙ rule.once x;
      seated = same (λ v. v.workers) (omega arith) ∙ rule.seated;
      each = each-snoc (IsAllowed plan.pieces) (set s.views id (without_one v)) (one_of v)
          (each-set (IsAllowed plan.pieces) s.views id (without_one v) rule.each
          (record { marks = omega arith; pieces = λ h. here.pieces (omega arith); idle = λ h. fresh }))
          (record { marks = omega arith; pieces = λ h. here.pieces (omega arith); idle = λ h. refl });
    }

-- join: one seat has what both drew, and the other is spent
pub joins : (plan : Plan) (id other : ℕ) (v w : View) →
    1 ≤ v.workers → Joins (AreClaimed plan) id v other w (joined v w) spent
joins plan id other v w some_worker s rule at apart there =
    let here = rule.each id v at in
    let second : get_elem? s.views other ≡ some w = sym (set_else s.views id other (joined v w) apart) ∙ there in
    let yonder = rule.each other w second in
    let same = λ (f : View → ℕ) (parts : f (joined v w) + f spent ≡ f v + f w).
    total-join f s.views id other v (joined v w) w spent at there parts in
    let drawn = same (λ v. length v.drawn) (omega (arith, length-append v.drawn w.drawn)) in
    let marks = same (λ v. v.ended) (omega arith) in
    record {
      small = rule.small;
      word = rule.word;
      taken = omega (arith, rule.taken);
      below = drawn ∙ rule.below;
      once = λ x. same (λ v. times x v.drawn) (omega (arith, times-append x v.drawn w.drawn)) ∙ rule.once x;
      seated = same (λ v. v.workers) (omega arith) ∙ rule.seated;
      each = each-set (IsAllowed plan.pieces) (set s.views id (joined v w)) other spent
          (each-set (IsAllowed plan.pieces) s.views id (joined v w) rule.each
          (record {
            marks = omega (arith, here.marks, yonder.marks);
            pieces = λ h. here.pieces some_worker;
            idle = λ h. absurd (omega arith);
          }))
          (record { marks = omega arith; pieces = λ h. absurd (omega arith); idle = λ h. refl });
    }

-- ---- draw

-- the word has room for one more
word_small : (plan : Plan) (s : State (Unit {0}) View) → AreClaimed plan s → slice_index s.words 0 + 1 < 2 ^ 64
word_small plan s rule =
    let marks = total-le (λ v. v.ended) (λ v. v.workers) s.views (λ i v e. (rule.each i v e).marks) in
    omega (arith, rule.taken, rule.below, rule.seated, rule.small)

-- the view that draws w, and the one that ends
abbrev drawing : View → ℕ → View
drawing v w = record v { drawn = v.drawn ++ w ∷ [] }

abbrev ending : View → View
ending v = record v { ended = v.ended + 1 }

-- whether a number is x
abbrev hit : ℕ → ℕ → ℕ
hit x n = if n == x then 1 else 0

hit-yes : (x n : ℕ) → n ≡ x → hit x n ≡ 1
hit-yes x n same = cond-true (n == x) 1 0 (eq-eqb n x same)

hit-no : (x n : ℕ) → n ≢ x → hit x n ≡ 0
hit-no x n apart = cond-false (n == x) 1 0 (ne_eqb n x apart)

-- one more number, w, is drawn: those below w + 1 are those below w, and w
once-more : (x w : ℕ) → times x (w ∷ []) + once_below x w ≡ once_below x (w + 1)
once-more x w = elim (cases_eq x w) [
  | inl same ↦ omega (arith, times-one x w same, once-no x w (omega arith), once-yes x (w + 1) (omega arith))
  | inr apart ↦ elim (cases_lt x w) [
    | inl below ↦ omega (arith, times-none x w apart, once-yes x w below, once-yes x (w + 1) (omega arith))
    | inr from ↦ omega (arith, times-none x w apart, once-no x w from, once-no x (w + 1) (omega arith))
  ]
]
  where
    times-one : (x w : ℕ) → x ≡ w → times x (w ∷ []) ≡ 1
    times-one x w same = sum_by-cons (hit x) w [] ∙ omega (arith, hit-yes x w (sym same))

    times-none : (x w : ℕ) → x ≢ w → times x (w ∷ []) ≡ 0
    times-none x w apart = sum_by-cons (hit x) w [] ∙ omega (arith, hit-no x w (λ e. apart (sym e)))

-- a member of a list stands in it
times-member : (x : ℕ) (numbers : List ℕ) (k : ℕ) → k < length numbers → slice_index numbers k ≡ x → 1 ≤ times x numbers
times-member x numbers k inside is =
    let among : hit x (slice_index numbers k) ≤ times x numbers = get_or-le-sum_by (hit x) numbers k 0 inside in
    omega (arith, hit-yes x (slice_index numbers k) is)

-- what a seat drew before is below the word
drawn_below : (plan : Plan) (s : State (Unit {0}) View) (id : ℕ) (v : View) →
    AreClaimed plan s → get_elem? s.views id ≡ some v → (k : ℕ) → k < length v.drawn →
    slice_index v.drawn k < slice_index s.words 0
drawn_below plan s id v rule at k inside =
    let x = slice_index v.drawn k in
    let w = slice_index s.words 0 in
    let member = times-member x v.drawn k inside refl in
    let total = total-least (λ v. times x v.drawn) s.views id v at in
    elim (cases_lt x (min w plan.pieces)) [
      | inl below ↦ omega arith
      | inr from ↦ absurd (omega (arith, rule.once x, once-no x (min w plan.pieces) from))
    ]

module _ (plan : Plan) (slots id : ℕ) (me : Me (Unit {0}) View) (one : me.0.workers ≡ 1) (live : me.0.ended ≡ 0) where
  draw_some : (s : State (Unit {0}) View) →
      AreClaimed plan s → get_elem? s.views id ≡ some me.0 → slice_index s.words 0 < plan.pieces →
      AreClaimed plan (stepped s 0 (slice_index s.words 0 + 1) id me.1 (drawing me.0 (slice_index s.words 0)) keeps)
  draw_some s rule at below =
      let v = me.0 in
      let w = slice_index s.words 0 in
      let here = rule.each id v at in
      let word = get_or-set_same s.words 0 (w + 1) 0 (omega (arith, rule.word)) in
      let drawn = total-set (λ v. length v.drawn) s.views id v (drawing v w) at in
      let marks = total-set (λ v. v.ended) s.views id v (drawing v w) at in
      record {
        small = rule.small;
        word = length-set s.words 0 (w + 1) ∙ rule.word;
        taken = omega (arith, rule.taken, length-append v.drawn (w ∷ []));
        below = omega (arith, rule.below, length-append v.drawn (w ∷ []));
        once = λ x.
            let before : min w plan.pieces ≡ w = omega arith in
            let after : min (slice_index (set s.words 0 (w + 1)) 0) plan.pieces ≡ w + 1 = omega arith in
            omega (
              arith,
              total-set (λ v. times x v.drawn) s.views id v (drawing v w) at,
              times-append x v.drawn (w ∷ []),
              once-more x w,
              rule.once x,
              ap (once_below x) before,
              ap (once_below x) after,
            );
        seated = omega (arith, total-set (λ v. v.workers) s.views id v (drawing v w) at, rule.seated);
        each = each-set (IsAllowed plan.pieces) s.views id (drawing v w) rule.each
            (record { marks = here.marks; pieces = here.pieces; idle = λ h. absurd (omega arith) });
      }

  draw_none : (s : State (Unit {0}) View) →
      AreClaimed plan s → get_elem? s.views id ≡ some me.0 → plan.pieces ≤ slice_index s.words 0 →
      AreClaimed plan (stepped s 0 (slice_index s.words 0 + 1) id me.1 (ending me.0) keeps)
  draw_none s rule at from =
      let v = me.0 in
      let w = slice_index s.words 0 in
      let here = rule.each id v at in
      let word = get_or-set_same s.words 0 (w + 1) 0 (omega (arith, rule.word)) in
      let drawn = total-set (λ v. length v.drawn) s.views id v (ending v) at in
      let marks = total-set (λ v. v.ended) s.views id v (ending v) at in
      let least : min (slice_index (set s.words 0 (w + 1)) 0) plan.pieces ≡ min w plan.pieces = omega arith in
      record {
        small = rule.small;
        word = length-set s.words 0 (w + 1) ∙ rule.word;
        taken = omega (arith, rule.taken);
        below = omega (arith, rule.below);
        once = λ x. omega
            (arith, total-set (λ v. times x v.drawn) s.views id v (ending v) at, rule.once x, ap (once_below x) least);
        seated = omega (arith, total-set (λ v. v.workers) s.views id v (ending v) at, rule.seated);
        each = each-set (IsAllowed plan.pieces) s.views id
            (ending v) rule.each (record { marks = omega arith; pieces = here.pieces; idle = here.idle });
      }

  pub draws : Allows (AreClaimed plan) slots id me 0 (λ w. (w + 1) % 2 ^ 64) (drew (step slots 0 1 0 none) me)
  draws s rule homes at small =
      let w = slice_index s.words 0 in
      let next : w + 1 ≡ (w + 1) % 2 ^ 64 = sym (mod-eq_of_lt (word_small plan s rule)) in
      let bound : me.0.pieces ≡ plan.pieces = (rule.each id me.0 at).pieces (omega arith) in
      elim (cases_lt w plan.pieces) [
        | inl below ↦ (
          drawing me.0 w,
          keeps,
          tt,
          subst (λ n. AreClaimed plan (stepped s 0 n id me.1 (drawing me.0 w) keeps)) next (draw_some s rule at below),
          (refl, (λ h. (refl, drawn_below plan s id me.0 rule at)), λ h. absurd (omega arith)),
        )
        | inr from ↦ (
          ending me.0,
          keeps,
          tt,
          subst (λ n. AreClaimed plan (stepped s 0 n id me.1 (ending me.0) keeps)) next (draw_none s rule at from),
          (refl, (λ h. absurd (omega arith)), λ h. refl),
        )
      ]

-- ---- close

-- once one view has all workers, it has all that was drawn
module _ (plan : Plan) (s : State (Unit {0}) View) (id : ℕ)
    (v : View) (rule : AreClaimed plan s) (at : get_elem? s.views id ≡ some v) (all : v.workers ≡ plan.workers) where
  alone : (f : View → ℕ) →
      f spent ≡ 0 → ((w : View) → IsAllowed plan.pieces w → w.workers ≡ 0 → f w ≡ 0) → sum_by f s.views ≡ f v
  alone f nothing idle =
      let workers = total-set (λ v. v.workers) s.views id v spent at in
      let none : sum_by (λ v. v.workers) (set s.views id spent) ≡ 0 = omega (arith, rule.seated) in
      let rest = total-zero f (λ v. v.workers) (set s.views id spent)
      (λ j w e no_worker. each-set (λ w. w.workers ≡ 0 → f w ≡ 0) s.views id spent
      (λ j w e. idle w (rule.each j w e)) (λ h. nothing) j w e no_worker) none in
      omega (arith, total-set f s.views id v spent at)

  pub closes-once : (x : ℕ) → times x v.drawn ≡ once_below x (min (slice_index s.words 0) plan.pieces)
  closes-once x =
      sym (alone (λ v. times x v.drawn) refl (λ w allowed none. ap (times x) (allowed.idle none))) ∙ rule.once x

  pub closes-drawn : length v.drawn ≡ min (slice_index s.words 0) plan.pieces
  closes-drawn =
      sym (alone (λ v. length v.drawn) refl (λ w allowed none. ap (λ (l : List ℕ). length l) (allowed.idle none)))
      ∙ rule.below

  pub closes-word : slice_index s.words 0 ≡ min (slice_index s.words 0) plan.pieces + v.ended
  closes-word =
      let marks = alone (λ v. v.ended) refl (λ w allowed none. omega (arith, allowed.marks)) in
      omega (arith, rule.taken, rule.below)
