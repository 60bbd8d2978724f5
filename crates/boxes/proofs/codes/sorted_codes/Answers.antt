-- The sort goes over the whole list, and keeps each code.
use Rattle.std.proofs.Common.{ℕ, List, All, sym, ◌∙◌, subst}
use Rattle.std.specs.List.Sorted.{IsPermutation}
use Rattle.std.proofs.lemmas.List.Sorted.{All-permutation, IsNonDecreasingBy-from_sort}
use Rattle.zorder.specs.Codes.{IsCode}
use Rattle.boxes.specs.PointCodes.{AreSortedCodes}
use Rattle.boxes.proofs.CodeLists.{written_over}
use Rattle.boxes.proofs.codes.sorted_codes.Goals as goal

pub returns-clause-sorted : goal.returns-clause-sorted
returns-clause-sorted g c =
    let sorted = c.par_sort_unstable.new.s in
    let codes = c.in_ok-codes.codes in
    let from = c.deref_mut.ensures.value ∙ c.in_ok-codes.ensures.codes in
    let over = written_over codes.items sorted codes.len (c.par_sort_unstable.ensures.len ∙ c.deref_mut.ensures.len) in
    subst (AreSortedCodes c.args.d c.args.points.now) (sym over) (record {
      never_falls = IsNonDecreasingBy-from_sort (λ (z : ℕ). z) sorted c.par_sort_unstable.ensures.sorted;
      same = subst (λ (xs : List ℕ). IsPermutation xs sorted) from c.par_sort_unstable.ensures.permutation;
    })

pub returns-clause-each : goal.returns-clause-each
returns-clause-each g c =
    let sorted = c.par_sort_unstable.new.s in
    let codes = c.in_ok-codes.codes in
    let over = written_over codes.items sorted codes.len (c.par_sort_unstable.ensures.len ∙ c.deref_mut.ensures.len) in
    let each = subst
    (λ (xs : List ℕ). All (λ z. IsCode c.args.d z) xs) (sym c.deref_mut.ensures.value) c.in_ok-codes.ensures.each in
    subst (λ (xs : List ℕ). All (λ z. IsCode c.args.d z) xs) (sym over)
    (All-permutation
    (λ z. IsCode c.args.d z) c.deref_mut.result.now sorted c.par_sort_unstable.ensures.permutation each)
