-- A list is ascending just where each key is below the next one.
use Rattle.std.proofs.Common.{◌≡◌, zero, suc, ◌+◌, ◌<◌, Bool, true, false, ltb, IsTrue, ◌↔◌}
use Rattle.std.proofs.Common.{List, length, get_or, None, refl, inl, inr, add-one, arith}
use Rattle.std.specs.List.{AllAdjacentBelow, IsAllAdjacentAnswer}
use Rattle.std.proofs.lemmas.Bool.{cases_lt, false≢true}
use Rattle.std.proofs.lemmas.Bool.Decides.{nat_tests}
use Rattle.tombstones.specs.declared.entry.Entry.{Entry}
use Rattle.tombstones.specs.Entries.{IsAscending}

-- where each key is below the next, each is below all later ones
ascending_from_next : (entries : List Entry) →
    AllAdjacentBelow (λ x y. x.key < y.key) entries (length entries) → IsAscending entries
ascending_from_next entries next i zero d lt in_range = absurd (omega arith)
ascending_from_next entries next i (suc j) d lt in_range =
    let step : (get_or entries j d).key < (get_or entries (suc j) d).key = rw add-one at (next j d (omega arith)) in
    elim (cases_lt i j) [
      | inl below ↦ omega (arith, ascending_from_next entries next i j d below (omega arith), step)
      | inr at_least ↦ let same : i ≡ j = omega arith in rw same step
    ]

-- what a test of each key against the next one answers
pub ascending_answer : (entries : List Entry) (answer : Bool) →
    IsAllAdjacentAnswer (λ x y b. b ≡ ltb x.key y.key) entries answer → IsTrue answer ↔ IsAscending entries
ascending_answer entries true next =
    (λ _. ascending_from_next entries (λ k d lt. grind (arith, nat_tests, next k d lt)), λ _. refl)
ascending_answer entries false (k, in_range, falls) =
    let d : Entry = record { key = 0; value = None } in (
      λ answer. absurd (false≢true answer),
      λ ascending. absurd (grind (arith, nat_tests, falls d, ascending k (k + 1) d)),
    )
