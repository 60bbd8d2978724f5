use Rattle.std.proofs.Common.{sym, ◌∙◌, arith}
use Rattle.log_levels.proofs.DescentLemmas.{behind-here, behind-other}
use Rattle.log_levels.proofs.descent.place_behind.Goals as goal

pub returns-then-place-entries : goal.returns-then-place-entries
returns-then-place-entries c = behind-other c.args.entries.now c.args.key c.args.place
    c.requires.ascending c.requires.place (λ inside is. absurd (omega (arith, inside, c.if-place-entries.true)))

pub returns-then-entries-place : goal.returns-then-entries-place
returns-then-entries-place c = behind-here c.args.entries.now c.args.key c.args.place
    c.requires.ascending c.requires.place (omega (arith, c.if-place-entries.false)) c.if-entries-place.true

pub returns : goal.returns
returns c = behind-other c.args.entries.now c.args.key c.args.place
    c.requires.ascending c.requires.place (λ inside is. c.if-entries-place.false is)
