-- What the filter denies the level hasn't.
use Rattle.std.proofs.Common.{◌≡◌, List, None, sym, subst}
use Rattle.std.proofs.lemmas.Bool.{OnFalse_from}
use Rattle.tombstones.specs.declared.entry.Entry.{Entry}
use Rattle.tombstones.specs.Entries.{entry_at}
use Rattle.map_level.proofs.FilterLemmas.{denied-missing}
use Rattle.map_level.proofs.level.Level.may_have.Goals as goal

pub returns : goal.returns
returns c = OnFalse_from c.passes.result (entry_at c.args.self.now c.args.key.now ≡ None) (λ no.
    let denied =
    denied-missing c.self.inside.filter c.self.inside.entries.items c.args.key.now c.self.invariant.1 (λ passes.
    let yes = c.passes.ensures.1 passes in
    cc) in
    subst (λ (list : List Entry). entry_at list c.args.key.now ≡ None) c.self.view_is (sym denied))
