-- The first key is at most q, so there is a predecessor.
use Rattle.std.proofs.Common.{◌<◌, ℕ, List, length, sym, subst, arith}
use Rattle.std.proofs.lemmas.Bool.Decides.{nat_tests}
use Rattle.window_search.specs.Searches.{IsPredecessor}
use Rattle.window_search.proofs.CallerLemmas.{predecessor_exists}
use Rattle.index_tests.proofs.window_search_rows.predecessor.Goals as goal

pub predecessor_in-requires-clause-answer : goal.predecessor_in-requires-clause-answer
predecessor_in-requires-clause-answer g c =
    let some : 0 < length c.args.keys.now = grind (arith, nat_tests) in
    let found = predecessor_exists c.args.keys.now c.args.q c.requires.order some c.if-q-keys.false in
    let counted = subst (λ (l : List ℕ). IsPredecessor l c.args.q found.0) (sym c.new-counted.ensures) found.1 in
    (found.0, counted, omega arith, omega (arith, found.1.inside))
