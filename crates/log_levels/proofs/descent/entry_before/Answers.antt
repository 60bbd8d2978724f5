use Rattle.std.proofs.Common.{refl, arith}
use Rattle.map_level.proofs.LevelLemmas.{key-before}
use Rattle.log_levels.proofs.DescentLemmas.{before-found, before-none}
use Rattle.log_levels.proofs.descent.entry_before.Goals as goal

pub returns-then-place-eq0 : goal.returns-then-place-eq0
returns-then-place-eq0 c = λ end at key less. before-none c.args.entries.now end c.args.place key
    c.requires.ascending at less (λ some. absurd (omega (arith, some, c.if-place-eq0.true)))

pub returns : goal.returns
returns c = λ end at. (
  (key-before c.args.entries.now c.args.entries.now end c.args.place refl c.requires.ascending at).1
      (omega (arith, c.if-place-eq0.false)),
  before-found c.args.entries.now c.args.place c.requires.ascending
      (omega (arith, c.if-place-eq0.false)) c.requires.within,
  λ key above less. before-none c.args.entries.now end c.args.place key c.requires.ascending at less (λ some. above),
)
