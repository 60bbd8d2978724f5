use Rattle.std.proofs.Common.{arith}
use Rattle.map_level.proofs.LevelLemmas.{key-between, key-read}
use Rattle.map_level.proofs.level.Level.key_at.Goals as goal

pub returns-then-place-entries-clause-least : goal.returns-then-place-entries-clause-least
returns-then-place-entries-clause-least c = λ from key at above below.
    key-between c.entries-entries.result.now c.args.self.now
    from c.args.place key c.entries-entries.ensures.entries c.entries-entries.ensures.ascending at above
    (λ inside. absurd (omega (arith, c.if-place-entries.true, inside)))

pub returns-clause-at : goal.returns-clause-at
returns-clause-at c = key-read c.entries-entries.result.now
    c.args.self.now c.args.place c.entries-entries.ensures.entries (omega (arith, c.if-place-entries.false))

pub returns-clause-least : goal.returns-clause-least
returns-clause-least c = λ from key at above below.
    key-between c.entries-entries.result.now c.args.self.now from c.args.place
    key c.entries-entries.ensures.entries c.entries-entries.ensures.ascending at above (λ inside. below)
