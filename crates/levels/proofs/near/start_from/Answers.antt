-- A question below the first key is asked as that key.
use Rattle.std.proofs.Common.{◌≡◌, ◌+◌, ◌*◌, ℕ, List, length, slice_index, ap, subst, ◌∙◌, arith}
use Rattle.std.specs.Prelude.{min, max}
use Rattle.std.specs.List.Sorted.{IsNonDecreasing}
use Rattle.key_search.specs.Interleaved.{HasBound}
use Rattle.key_search.proofs.CallerLemmas.{HasBound-raised}
use Rattle.levels.proofs.near.start_from.Goals as goal

pub returns : goal.returns
returns g c =
    let keys = c.args.index.now.keys in
    let file : c.as_slice-keys.result.now ≡ keys = c.as_slice-keys.ensures.keys ∙ c.keys.ensures in
    let order : IsNonDecreasing keys = subst IsNonDecreasing file c.as_slice-keys.ensures.never_falls in
    let first = slice_index c.as_slice-keys.result.now 0 in
    let asked : c.max-asked.result ≡ max c.args.q first = omega (arith, c.max-asked.ensures) in
    let count : c.min-count.result ≡ min (2 * c.args.index.now.eps + 3) (length keys + 1) = omega
    (arith, c.min-count.ensures, c.from.ensures, c.eps_of.ensures.bound, ap (λ (l : List ℕ). length l) file) in
    let bound =
    subst (λ (q : ℕ). HasBound keys q c.start_bound.result c.min-count.result) asked c.start_bound.ensures in
    subst (HasBound keys c.args.q c.start_bound.result) count
    (HasBound-raised keys c.args.q first c.start_bound.result c.min-count.result order
    (ap (λ (l : List ℕ). slice_index l 0) file) bound)
