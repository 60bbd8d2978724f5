use Rattle.std.proofs.Common.{sym, ap, ◌∙◌}
use Rattle.log_levels.specs.Shapes.{Held}
use Rattle.log_levels.specs.Accepted.{entries_of}
use Rattle.log_levels.specs.Kept.{value_of}
use Rattle.log_levels.proofs.SearchLemmas.{search-buffer}
use Rattle.log_levels.proofs.ValueLemmas.{value-after}
use Rattle.log_levels.proofs.log_map.LogMap.get.Goals as goal

pub returns-in-Some : goal.returns-in-Some
returns-in-Some c = λ updates stands.
    let is = c.deref.ensures.value ∙ ap (λ (held : Held). held.buffer) c.self.view_is ∙ stands.buffer in
    sym (value-after updates c.args.key ∙ ap value_of
    (search-buffer (entries_of updates) c.deref.result.now c.args.key c.in-Some.entry.now is (sym c.in-Some.ensures)))

pub returns-in-None : goal.returns-in-None
returns-in-None c =
    λ updates stands. c.value_in_levels.ensures (entries_of updates) stands ∙ sym (value-after updates c.args.key)
