use Rattle.std.proofs.Common.{◌≡◌, Bool, List, All, IsSome, refl, sym, subst}
use Rattle.tombstones.specs.declared.entry.Entry.{Entry}
use Rattle.tombstones.specs.Entries.{entry_at, kept}
use Rattle.log_levels.proofs.KeptLemmas.{kept-values}
use Rattle.log_levels.proofs.growth.kept_of.Goals as goal

pub returns-then-have_values-clause-keeps : goal.returns-then-have_values-clause-keeps
returns-then-have_values-clause-keeps g c = λ key.
    let all = subst (λ (list : List Entry). All (λ (entry : Entry). IsSome entry.value) list) c.deref.ensures.value
    (c.if-have_values.ensures refl) in
    subst (λ (deepest : Bool). entry_at c.args.entries.items key ≡ kept deepest (entry_at c.args.entries.items key))
    (sym c.if-not-deepest.false) (kept-values c.args.entries.items key all)
