use Rattle.std.proofs.Common.{◌++◌, List, subst, sym, ap, ◌∙◌}
use Rattle.tombstones.specs.declared.entry.Entry.{Entry}
use Rattle.log_levels.specs.Shapes.{IsCutOf}
use Rattle.log_levels.specs.Accepted.{entries_of}
use Rattle.log_levels.proofs.UpdateLemmas.{entries_of-plain}
use Rattle.log_levels.proofs.log_map.LogMap.add_plain.Goals as goal

pub returns-clause-added : goal.returns-clause-added
returns-clause-added g c = λ before stands.
    subst (IsCutOf c.append.new.self)
    (ap (λ (list : List Entry). entries_of before ++ list) (c.deref.ensures.value ∙ c.in_ok-entries.ensures)
    ∙ sym (entries_of-plain before c.args.updates.now c.requires.plain))
    (c.in_ok-append.ensures.cut (entries_of before) stands)
