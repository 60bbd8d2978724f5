use Rattle.std.proofs.Common.{ℕ, map, unwrap_or, Option, ap, ◌∙◌}
use mathlib.Core.List.{map-map}
use Rattle.log_levels.specs.Maps.{map_after, value_at}
use Rattle.kuldebiq.specs.Changes.{one_if_some}
use Rattle.kuldebiq.proofs.get_many.write_block.Goals as goal

pub returns-clause-values : goal.returns-clause-values
returns-clause-values c = λ updates stands.
    let get : ℕ → Option ℕ = value_at (map_after updates) in
    let value : Option ℕ → ℕ = λ found. unwrap_or found 0 in
    c.write_found.ensures.values ∙ ap (map value) (c.get_many.ensures updates stands)
    ∙ map-map value get c.args.keys.now

pub returns-clause-present : goal.returns-clause-present
returns-clause-present c = λ updates stands.
    let get : ℕ → Option ℕ = value_at (map_after updates) in
    c.write_found.ensures.present ∙ ap (map one_if_some) (c.get_many.ensures updates stands)
    ∙ map-map one_if_some get c.args.keys.now
