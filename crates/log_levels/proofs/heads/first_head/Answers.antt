use Rattle.std.proofs.Common.{◌≡◌, ℕ, List, slice_index_or, subst, ap, ◌∙◌, arith}
use Rattle.std.proofs.lemmas.List.{get_or_default}
use Rattle.log_levels.specs.Kept.{IsFirst}
use Rattle.log_levels.proofs.heads.first_head.Goals as goal

pub returns-clause-first : goal.returns-clause-first
returns-clause-first c =
    let items = c.as_slice-items.result.now in
    let place = c.loop-k.place in
    subst (λ (heads : List (ℕ × ℕ)).
    IsFirst heads (record { place = place; key = c.loop-k.key; level = (slice_index_or items place (0, 0)).1 }))
    c.as_slice-items.ensures.value (record {
      inside = omega arith;
      is = λ d.
          let read : slice_index_or items place d
          ≡ slice_index_or items place (0, 0) = get_or_default items place d (0, 0) (omega arith) in
          read ∙ ap (λ key. (key, (slice_index_or items place (0, 0)).1)) (c.loop-k.invariant.at (0, 0));
      least = λ k d inside. c.loop-k.invariant.least k d (omega arith);
      newest = c.loop-k.invariant.newest;
    })
