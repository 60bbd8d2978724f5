use Rattle.std.proofs.Common.{arith}
use Rattle.log_levels.proofs.DescentLemmas.{back-here, back-other}
use Rattle.log_levels.proofs.descent.place_before.Goals as goal

pub returns-then-place-eq0 : goal.returns-then-place-eq0
returns-then-place-eq0 c = λ end at less none. back-other c.args.entries.now end c.args.place c.args.key
    c.requires.ascending at less none (λ some is. absurd (omega (arith, some, c.if-place-eq0.true)))

pub returns-then-entries-place : goal.returns-then-entries-place
returns-then-entries-place c = λ end at less none. back-here c.args.entries.now end c.args.place c.args.key
    c.requires.ascending at (omega (arith, c.if-place-eq0.false)) c.if-entries-place.true

pub returns : goal.returns
returns c = λ end at less none. back-other c.args.entries.now end c.args.place c.args.key
    c.requires.ascending at less none (λ some is. c.if-entries-place.false is)
