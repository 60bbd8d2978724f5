use Rattle.std.proofs.Common.{◌∙◌, arith}
use Rattle.written.proofs.LoopLemmas.{written_none, mapped_more, mapped_broken, mapped_all}
use Rattle.commands.specs.Texts.Neighbours.{neighbour_line}
use Rattle.written.proofs.WritingLemmas.{broken}
use Rattle.commands.proofs.neighbours.write_points.Goals as goal

pub loop-i-init : goal.loop-i-init
loop-i-init g c = written_none

pub loop-i-preserved : goal.loop-i-preserved
loop-i-preserved g c =
    mapped_more
    (neighbour_line c.args.d) c.args.points.now c.loop-i.i c.loop-i.invariant (0, 0) c.in_ok-hand_over.ensures
    (omega arith) (c.as_bytes.ensures ∙ c.fill_neighbour_line.ensures)

pub returns-in_err-hand_over : goal.returns-in_err-hand_over
returns-in_err-hand_over g c =
    broken _ c.from_residual.result c.from_residual.ensures.1
    (mapped_broken
    (neighbour_line c.args.d) c.args.points.now c.loop-i.i c.loop-i.invariant (0, 0) c.in_err-hand_over.ensures
    (omega arith) (c.as_bytes.ensures ∙ c.fill_neighbour_line.ensures))

pub returns : goal.returns
returns g c = mapped_all (neighbour_line c.args.d) c.args.points.now c.loop-i.i c.loop-i.invariant (omega arith)
