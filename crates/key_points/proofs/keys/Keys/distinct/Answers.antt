use Rattle.std.proofs.Common.{◌∙◌, ap, eqb}
use Rattle.std.proofs.lemmas.List.Filters.{dedup_is}
use Rattle.key_points.specs.KeyPoints.{distinct_of}
use Rattle.key_points.proofs.keys.Keys.distinct.Goals as goal

pub returns : goal.returns
returns c = dedup_is eqb c.in_ok-keys.keys.items c.dedup.new.self.items c.dedup.ensures.filtered
    ∙ ap distinct_of (c.in_ok-keys.ensures.items ∙ c.deref.ensures.value ∙ c.self.view_is)
