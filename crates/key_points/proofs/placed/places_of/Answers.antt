-- One place more.
use Rattle.std.proofs.Common.{ap, ◌++◌, [], ◌∷◌, ℕ, List}
use Rattle.exact_cross.proofs.CallerLemmas.{places-more}
use Rattle.key_points.proofs.placed.places_of.Goals as goal

pub loop-place-preserved : goal.loop-place-preserved
loop-place-preserved c = rw (c.in_ok-push.ensures.items, places-more c.loop-place.place)
    (ap (λ (l : List ℕ). l ++ c.loop-place.place ∷ []) c.loop-place.invariant)
