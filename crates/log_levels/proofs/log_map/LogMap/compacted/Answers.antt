use Rattle.std.proofs.Common.{ℕ, List, subst, ◌∙◌}
use Rattle.log_levels.specs.Maps.{map_after, IsFirstStall}
use Rattle.log_levels.specs.Shapes.{IsMapOf}
use Rattle.log_levels.proofs.LoadLemmas.{map-puts, no-stall}
use Rattle.log_levels.proofs.MapLemmas.{rises-after}
use Rattle.log_levels.proofs.log_map.LogMap.compacted.Goals as goal

pub returns-in-Ok-clause-made : goal.returns-in-Ok-clause-made
returns-in-Ok-clause-made c = λ updates stands.
    subst (λ (pairs : List (ℕ × ℕ)). IsMapOf c.args.levels pairs c.in-Ok.map)
    (c.deref.ensures.value ∙ c.in_ok-pairs.ensures updates stands) c.in-Ok.ensures.made

pub returns-in_err-pairs-clause-same : goal.returns-in_err-pairs-clause-same
returns-in_err-pairs-clause-same c = λ updates. map-puts (map_after updates) (rises-after updates)

pub returns-in-Ok-clause-same : goal.returns-in-Ok-clause-same
returns-in-Ok-clause-same c = λ updates. map-puts (map_after updates) (rises-after updates)

pub returns-in-Err-Full-clause-same : goal.returns-in-Err-Full-clause-same
returns-in-Err-Full-clause-same c = λ updates. map-puts (map_after updates) (rises-after updates)

pub returns-in-Err-NoMemory-clause-same : goal.returns-in-Err-NoMemory-clause-same
returns-in-Err-NoMemory-clause-same c = λ updates. map-puts (map_after updates) (rises-after updates)

pub unreachable-requires : goal.unreachable-requires
unreachable-requires c =
    let (updates, stands) = c.accepted.ensures.stands in
    let stall = c.of_sorted.ensures.unsorted_only c.in-Err-Unsorted.field-0-0 cc in
    no-stall (map_after updates) c.in-Err-Unsorted.field-0-0 (rises-after updates)
    (subst (λ (pairs : List (ℕ × ℕ)). IsFirstStall pairs c.in-Err-Unsorted.field-0-0)
    (c.deref.ensures.value ∙ c.in_ok-pairs.ensures updates stands) stall)
