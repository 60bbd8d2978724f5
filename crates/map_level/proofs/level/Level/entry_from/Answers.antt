use Rattle.std.proofs.Common.{List, length, sym, ap, arith}
use Rattle.tombstones.specs.declared.entry.Entry.{Entry}
use Rattle.map_level.proofs.LevelLemmas.{missing-past, entry-found, entry-missing}
use Rattle.map_level.proofs.level.Level.entry_from.Goals as goal

pub returns-then-place-entries : goal.returns-then-place-entries
returns-then-place-entries c =
    let end = ap (λ (list : List Entry). length list) c.entries-entries.ensures.entries in
    sym (missing-past c.args.self.now c.args.key c.entries-entries.ensures.ascending
    (omega (arith, c.if-place-entries.true, c.requires, end)))

pub returns-then-entries-place : goal.returns-then-entries-place
returns-then-entries-place c =
    entry-missing c.entries-entries.result.now c.args.self.now c.args.key c.args.place
    c.entries-entries.ensures.entries c.entries-entries.ensures.ascending c.requires c.if-entries-place.true

pub returns : goal.returns
returns c =
    entry-found c.entries-entries.result.now c.args.self.now c.args.key c.args.place
    c.entries-entries.ensures.entries c.entries-entries.ensures.ascending (omega (arith, c.if-place-entries.false))
    c.if-entries-place.false
