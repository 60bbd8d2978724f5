use Rattle.std.proofs.Common.{length, arith}
use Rattle.written.proofs.LoopLemmas.{written_none, written_more, written_all, broken_there}
use Rattle.commands.specs.Tasks.{bounds_of}
use Rattle.commands.specs.Texts.Explain.{level_lines}
use Rattle.commands.proofs.LevelTexts.{told_from, told_end}
use Rattle.written.proofs.WritingLemmas.{broken}
use Rattle.commands.proofs.explain.write_levels.Goals as goal

pub loop-i-init : goal.loop-i-init
loop-i-init g c = written_none

pub loop-i-preserved : goal.loop-i-preserved
loop-i-preserved g c =
    let told = level_lines c.args.index.now.keys (bounds_of c.args.bounds) c.args.index.now.levels in
    written_more c.loop-i.invariant c.in_ok-write_level.ensures
    (told_from told (length c.args.index.now.levels) c.loop-i.i (omega (arith, c.level_count-i-end.ensures.count)))

pub returns-in_err-write_level : goal.returns-in_err-write_level
returns-in_err-write_level g c =
    let told = level_lines c.args.index.now.keys (bounds_of c.args.bounds) c.args.index.now.levels in
    broken _ c.from_residual.result c.from_residual.ensures.1
    (broken_there _ c.loop-i.invariant c.in_err-write_level.ensures
    (told_from told (length c.args.index.now.levels) c.loop-i.i (omega (arith, c.level_count-i-end.ensures.count))))

pub returns : goal.returns
returns g c =
    written_all c.loop-i.invariant
    (told_end (level_lines c.args.index.now.keys (bounds_of c.args.bounds) c.args.index.now.levels)
    (length c.args.index.now.levels) c.loop-i.i
    (omega (arith, c.level_count-i-end.ensures.count)))
