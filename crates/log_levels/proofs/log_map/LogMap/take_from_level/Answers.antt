use Rattle.std.proofs.Common.{◌≡◌, ◌+◌, ◌<◌, ℕ, List, length, slice_index, slice_index_or}
use Rattle.std.proofs.Common.{slice_set, Some, subst, sym, ap, ◌∙◌, arith}
use Rattle.tombstones.specs.declared.entry.Entry.{Entry}
use Rattle.tombstones.specs.Entries.{IsAscending, entry_at}
use Rattle.map_level.proofs.LevelLemmas.{entry-found, key-read, no_entry}
use Rattle.log_levels.specs.declared.heads.First.{First}
use Rattle.log_levels.specs.Shapes.{Held, level_of}
use Rattle.log_levels.specs.Kept.{AreHeads, StandsAt}
use Rattle.log_levels.proofs.HeadLemmas.{first-stands, heads-moved}
use Rattle.log_levels.proofs.WalkLemmas.{behind-passed, left-passed}
use Rattle.log_levels.proofs.log_map.LogMap.take_from_level.Goals as goal

-- the entry that is read has the key
key-there : (held : Held) (places : List ℕ) (first : First) (list level : List Entry) →
    StandsAt held places first.key first.level → level_of held first.level ≡ Some level → list ≡ level
    → (slice_index places first.level < length list)
    × ((slice_index_or list (slice_index places first.level) no_entry).key ≡ first.key)
key-there held places first list level stands is same =
    let (fits, has) = stands.stands level is in
    let inside :
    slice_index places first.level < length list = omega (arith, fits, ap (λ (l : List Entry). length l) same) in
    (inside, sym (key-read list level (slice_index places first.level) same inside).1 ∙ has)

entry-there : (held : Held) (places : List ℕ) (first : First) (list level other : List Entry) →
    StandsAt held places first.key first.level →
    level_of held first.level ≡ Some level → list ≡ level → IsAscending level
    → level_of held first.level ≡ Some other →
    entry_at other first.key ≡ Some (slice_index_or list (slice_index places first.level) no_entry)
entry-there held places first list level other stands is same ascending other_is =
    let both : Some level ≡ Some other = sym is ∙ other_is in
    let one : level ≡ other = cc in
    let (inside, has) = key-there held places first list level stands is same in
    sym (entry-found list other first.key
    (slice_index places first.level) (same ∙ one) (subst IsAscending one ascending) inside has)

every-ascending : (held : Held) (i : ℕ) (level : List Entry) → level_of held i ≡ Some level →
    IsAscending level → (other : List Entry) → level_of held i ≡ Some other → IsAscending other
every-ascending held i level is ascending other other_is =
    let both : Some level ≡ Some other = sym is ∙ other_is in
    let one : level ≡ other = cc in
    subst IsAscending one ascending

pub returns-then-place-entries-clause-key : goal.returns-then-place-entries-clause-key
returns-then-place-entries-clause-key c =
    let stands = first-stands c.args.self.now
    c.args.walk.now.places 0 c.args.walk.now.heads.items c.args.first c.requires.heads c.requires.first in
    (key-there c.args.self.now c.args.walk.now.places c.args.first c.entries-entries.result.now
    c.occupied_level.result.now stands c.occupied_level.ensures c.entries-entries.ensures.entries).1

pub returns-else-place-entries-clause-key : goal.returns-else-place-entries-clause-key
returns-else-place-entries-clause-key c =
    let stands = first-stands c.args.self.now
    c.args.walk.now.places 0 c.args.walk.now.heads.items c.args.first c.requires.heads c.requires.first in
    (key-there c.args.self.now c.args.walk.now.places c.args.first c.entries-entries.result.now
    c.occupied_level.result.now stands c.occupied_level.ensures c.entries-entries.ensures.entries).1

pub returns-then-place-entries-clause-entry : goal.returns-then-place-entries-clause-entry
returns-then-place-entries-clause-entry c = λ level is.
    let stands = first-stands c.args.self.now
    c.args.walk.now.places 0 c.args.walk.now.heads.items c.args.first c.requires.heads c.requires.first in
    entry-there c.args.self.now c.args.walk.now.places c.args.first c.entries-entries.result.now
    c.occupied_level.result.now level stands c.occupied_level.ensures c.entries-entries.ensures.entries
    c.entries-entries.ensures.ascending is

pub returns-else-place-entries-clause-entry : goal.returns-else-place-entries-clause-entry
returns-else-place-entries-clause-entry c = λ level is.
    let stands = first-stands c.args.self.now
    c.args.walk.now.places 0 c.args.walk.now.heads.items c.args.first c.requires.heads c.requires.first in
    entry-there c.args.self.now c.args.walk.now.places c.args.first c.entries-entries.result.now
    c.occupied_level.result.now level stands c.occupied_level.ensures c.entries-entries.ensures.entries
    c.entries-entries.ensures.ascending is

pub returns-then-place-entries-clause-behind : goal.returns-then-place-entries-clause-behind
returns-then-place-entries-clause-behind c = λ low behind.
    let stands = first-stands c.args.self.now
    c.args.walk.now.places 0 c.args.walk.now.heads.items c.args.first c.requires.heads c.requires.first in
    behind-passed c.args.self.now c.args.walk.now.places low c.args.first.key c.args.first.level
    (every-ascending c.args.self.now
    c.args.first.level c.occupied_level.result.now c.occupied_level.ensures c.entries-entries.ensures.ascending)
    (omega (arith, stands.inside, c.requires.heads.low)) behind stands

pub returns-else-place-entries-clause-behind : goal.returns-else-place-entries-clause-behind
returns-else-place-entries-clause-behind c = λ low behind.
    let stands = first-stands c.args.self.now
    c.args.walk.now.places 0 c.args.walk.now.heads.items c.args.first c.requires.heads c.requires.first in
    behind-passed c.args.self.now c.args.walk.now.places low c.args.first.key c.args.first.level
    (every-ascending c.args.self.now
    c.args.first.level c.occupied_level.result.now c.occupied_level.ensures c.entries-entries.ensures.ascending)
    (omega (arith, stands.inside, c.requires.heads.low)) behind stands

pub returns-then-place-entries-clause-fewer : goal.returns-then-place-entries-clause-fewer
returns-then-place-entries-clause-fewer c = λ low few.
    let stands = first-stands c.args.self.now
    c.args.walk.now.places 0 c.args.walk.now.heads.items c.args.first c.requires.heads c.requires.first in
    let (fits, has) = stands.stands c.occupied_level.result.now c.occupied_level.ensures in
    left-passed c.args.self.now c.args.walk.now.places low c.args.first.key c.args.first.level c.requires.count
    (omega (arith, stands.inside, c.requires.heads.low)) (omega (arith, fits, c.entries-entries.ensures.few)) few

pub returns-else-place-entries-clause-fewer : goal.returns-else-place-entries-clause-fewer
returns-else-place-entries-clause-fewer c = λ low few.
    let stands = first-stands c.args.self.now
    c.args.walk.now.places 0 c.args.walk.now.heads.items c.args.first c.requires.heads c.requires.first in
    let (fits, has) = stands.stands c.occupied_level.result.now c.occupied_level.ensures in
    left-passed c.args.self.now c.args.walk.now.places low c.args.first.key c.args.first.level c.requires.count
    (omega (arith, stands.inside, c.requires.heads.low)) (omega (arith, fits, c.entries-entries.ensures.few)) few

pub returns-then-place-entries-clause-heads : goal.returns-then-place-entries-clause-heads
returns-then-place-entries-clause-heads c =
    let place = slice_index c.args.walk.now.places c.args.first.level in
    let list = c.entries-entries.result.now in
    let inside : place + 1 < length list = omega arith in
    let (fits, read) = key-read list c.occupied_level.result.now (place + 1) c.entries-entries.ensures.entries inside in
    subst (AreHeads c.args.self.now (slice_set c.args.walk.now.places c.args.first.level (place + 1)) 0)
    (sym c.put_head.ensures)
    (heads-moved c.args.self.now c.args.walk.now.places 0
    (slice_index_or list (place + 1) no_entry).key c.args.walk.now.heads.items
    c.args.first c.occupied_level.result.now c.requires.heads c.requires.first c.requires.count
    c.occupied_level.ensures c.entries-entries.ensures.ascending fits read)
