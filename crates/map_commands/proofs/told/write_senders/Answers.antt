use Rattle.std.proofs.Common.{◌∙◌, arith}
use Rattle.written.proofs.LoopLemmas.{written_none, mapped_more, mapped_broken, mapped_all}
use Rattle.map_commands.specs.Mix.{from_line}
use Rattle.written.proofs.WritingLemmas.{broken}
use Rattle.map_commands.proofs.told.write_senders.Goals as goal

pub loop-i-init : goal.loop-i-init
loop-i-init g c = written_none

pub loop-i-preserved : goal.loop-i-preserved
loop-i-preserved g c =
    mapped_more from_line c.args.numbers.now c.loop-i.i c.loop-i.invariant 0 c.in_ok-hand_over.ensures
    (omega arith) (c.as_bytes.ensures ∙ c.fill_from.ensures)

pub returns-in_err-hand_over : goal.returns-in_err-hand_over
returns-in_err-hand_over g c =
    broken _ c.from_residual.result c.from_residual.ensures.1
    (mapped_broken from_line c.args.numbers.now c.loop-i.i c.loop-i.invariant 0 c.in_err-hand_over.ensures
    (omega arith) (c.as_bytes.ensures ∙ c.fill_from.ensures))

pub returns : goal.returns
returns g c = mapped_all from_line c.args.numbers.now c.loop-i.i c.loop-i.invariant (omega arith)
