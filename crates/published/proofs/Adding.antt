-- The exchange that adds a batch keeps the rule of the book.
use Rattle.std.proofs.Common.{◌≡◌, ◌≢◌, MatchBool, ℕ, ◌+◌, ◌<◌, ◌==◌, Bool, true, false, List}
use Rattle.std.proofs.Common.{[], ◌∷◌, ◌++◌, length, refl, ap, sym, ◌∙◌, subst, arith, inl, None}
use Rattle.std.proofs.lemmas.List.{append-nil}
use Rattle.std.proofs.lemmas.Bool.Decides.{nat_tests}
use mathlib.Core.List.{IsPrefix}
use prog.Atomic.{either}
use Rattle.logbook.specs.Pages.{Cell, cell, keeps, no_nib, step, Moves, Goes}
use Rattle.log_levels.specs.declared.update.Update.{Update}
use Rattle.published.specs.Histories.{count_of, AreFilled}
use Rattle.published.specs.Books.{IsKept, Adds}
use Rattle.published.proofs.Prefixes.{prefix_whole, filled_more, count_of-append, updates_of-one}

abbrev pub shown : List (List Update) → List (List Update)
shown log = []

abbrev pub moved : List (List Update) → List (List Update) → ℕ → Type 0
moved xs ys n = Unit {0}

count_more : (log : List (List Update)) (batch : List Update) →
    count_of (log ++ batch ∷ []) ≡ count_of log + length batch
count_more log batch =
    omega (arith, count_of-append log (batch ∷ []), ap (λ (us : List Update). length us) (updates_of-one batch))

pub adds_goes : (log v : List (List Update)) (batch : List Update) (old new : ℕ) →
    count_of v ≡ old → new ≡ old + length batch → 0 < length batch → AreFilled log → IsPrefix v log
    → (b : Bool) → (count_of log == old) ≡ b
    → Goes IsKept shown moved 0 (v, (no_nib, None)) (λ n. either (n == old) new n)
    (Adds (step 0 old new batch) (v, (no_nib, None))) ((count_of log, true) ∷ (0, true) ∷ []) log
adds_goes log v batch old new len sum some filled pre true is =
    let here : count_of log ≡ old = grind (arith, nat_tests) in
    let same : v ≡ log = prefix_whole v log filled pre (omega arith) in
    let filled' : AreFilled (log ++ batch ∷ []) = filled_more log batch filled some in
    let n : either (count_of log == old) new (count_of log)
    ≡ count_of (log ++ batch ∷ []) = rw is (omega (arith, count_more log batch)) in (
      keeps,
      batch ∷ [],
      None,
      tt,
      record { words = ap (λ (k : ℕ). (k, true) ∷ (0, true) ∷ []) n; filled = filled' },
      inl (refl, refl),
      rw is (ap (λ w. w ++ batch ∷ []) (sym same), filled'),
    )
adds_goes log v batch old new len sum some filled pre false is =
    let all : log ++ [] ≡ log = append-nil log in
    let filled' : AreFilled (log ++ []) = subst AreFilled (sym all) filled in
    let n : either (count_of log == old) new (count_of log) ≡ count_of (log ++ []) = rw is (ap count_of (sym all)) in (
      keeps,
      [],
      None,
      tt,
      record { words = ap (λ (k : ℕ). (k, true) ∷ (0, true) ∷ []) n; filled = filled' },
      inl (refl, refl),
      rw is (ap count_of all, filled'),
    )

-- whatever the book is, the exchange adds the batch to all that was seen, or finds that the history is longer
pub adds_moves : (v : List (List Update)) (batch : List Update) (old new : ℕ) →
    count_of v ≡ old → new ≡ old + length batch → 0 < length batch
    → Moves IsKept shown moved 0
    (v, (no_nib, None)) (λ n. either (n == old) new n) (Adds (step 0 old new batch) (v, (no_nib, None)))
adds_moves v batch old new len sum some cs log kept pre away =
    let P : List Cell → Type 0 = λ c. (0 < length c) × ((cell c 0).1 ≡ true) × Goes IsKept shown moved 0
    (v, (no_nib, None)) (λ n. either (n == old) new n) (Adds (step 0 old new batch) (v, (no_nib, None))) c log in
    subst P (sym kept.words)
    (omega arith, refl, adds_goes log v batch old new len sum some kept.filled pre (count_of log == old) refl)

-- what the exchange leaves: the count of all that is seen then, and that no batch is empty
pub adds_counts : (v w : List (List Update)) (batch : List Update) (old found : ℕ) → count_of v ≡ old
    → (b : Bool) →
    (found == old) ≡ b → MatchBool b ((w ≡ v ++ batch ∷ []) × AreFilled w) ((count_of w ≡ found) × AreFilled w)
    → (found ≡ old → count_of w ≡ old + length batch) × ((found ≢ old) → count_of w ≡ found) × AreFilled w
adds_counts v w batch old found len true is left = (
  (λ e. ap count_of left.0 ∙ omega (arith, count_more v batch)),
  (λ apart. absurd (apart (grind (arith, nat_tests)))),
  left.1,
)
adds_counts v w batch old found len false is left = (
  (λ e. absurd (grind (arith, nat_tests))),
  (λ apart. left.0),
  left.1,
)
