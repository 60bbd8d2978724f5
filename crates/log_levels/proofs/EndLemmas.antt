-- The least pair of a map, and the map without it.
use Rattle.std.proofs.Common.{◌≡◌, ℕ, ◌↔◌, leb, Bool, true, false, not, List, [], ◌∷◌, ◌++◌, drop}
use Rattle.std.proofs.Common.{Option, Some, None, IsTrue, is_some, refl, sym, ap, ◌∙◌, arith}
use Rattle.std.proofs.lemmas.Bool.{cond-true, le-leb}
use Rattle.std.proofs.lemmas.List.{append-nil}
use Rattle.std.proofs.lemmas.List.Sums.{fold-append}
use Rattle.log_levels.specs.declared.update.Update.{Update}
use Rattle.log_levels.specs.declared.update.Update.TheVariants.{Del}
use Rattle.log_levels.specs.Maps.{updated, map_after, first_of}
use Rattle.log_levels.specs.Accepted.{taking}
use Rattle.log_levels.proofs.MapLemmas.{remove-here}

pub first-cons : (pair : ℕ × ℕ) (pairs : List (ℕ × ℕ)) → first_of (pair ∷ pairs) ≡ Some pair
first-cons pair pairs = cond-true (leb 0 pair.0) _ _ (le-leb 0 pair.0 (omega arith))

-- a map has no key where it has no least one
pub empty-first : (pairs : List (ℕ × ℕ)) (none : Bool) →
    is_some (first_of pairs) ≡ not none → IsTrue none ↔ (pairs ≡ [])
empty-first [] none is = (λ here. refl, λ empty. apart none is)
  where
    apart : (none : Bool) → false ≡ not none → IsTrue none
    apart true here = cc
    apart false here = cc
empty-first (pair ∷ pairs) none is =
    (λ here. absurd (both none (sym (ap is_some (first-cons pair pairs)) ∙ is) here), λ empty. cc)
  where
    both : (none : Bool) → true ≡ not none → IsTrue none → ⊥
    both true here is = cc
    both false here is = cc

-- one update more
pub map_after-more : (updates : List Update) (update : Update) →
    map_after (updates ++ update ∷ []) ≡ updated (map_after updates) update
unfolding map_after
map_after-more updates update = fold-append updated [] updates (update ∷ [])

-- without its least key a map is all pairs but the first
pub rest-first : (updates : List Update) →
    map_after (updates ++ taking (first_of (map_after updates))) ≡ drop 1 (map_after updates)
rest-first updates = go (map_after updates) refl
  where
    go : (pairs : List (ℕ × ℕ)) →
        map_after updates ≡ pairs → map_after (updates ++ taking (first_of pairs)) ≡ drop 1 pairs
    go [] is = ap map_after (append-nil updates) ∙ is
    go (pair ∷ pairs) is =
        ap (λ found. map_after (updates ++ taking found)) (first-cons pair pairs) ∙ map_after-more updates (Del pair.0)
        ∙ ap (λ map. updated map (Del pair.0)) is ∙ remove-here pair pairs pair.0 refl
