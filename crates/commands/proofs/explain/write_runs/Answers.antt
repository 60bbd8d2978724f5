use Rattle.std.proofs.Common.{◌≡◌, ◌+◌, [], ◌∷◌, get_or, drop, arith, ◌∙◌}
use Rattle.written.proofs.LoopLemmas.{written_none, written_more, written_all, broken_there}
use Rattle.commands.specs.Texts.Explain.{run_line, run_lines}
use Rattle.commands.proofs.RunLines.{no_segment, run_lines-begin, run_lines-end}
use Rattle.written.proofs.WritingLemmas.{broken}
use Rattle.commands.proofs.explain.write_runs.Goals as goal

pub loop-i-init : goal.loop-i-init
loop-i-init g c = written_none

pub loop-i-preserved : goal.loop-i-preserved
loop-i-preserved g c =
    let segments = c.args.segments.now in
    let i = c.loop-i.i in
    let piece = c.as_bytes.result.now in
    let same : piece ≡ run_line (get_or segments i no_segment) c.start_at-end.result = c.as_bytes.ensures
    ∙ c.fill_run_line.ensures in
    let is =
    run_lines-begin segments c.args.to i c.start_at-end.result piece (omega arith) c.start_at-end.ensures same in
    written_more c.loop-i.invariant c.in_ok-hand_over.ensures is

pub returns-in_err-hand_over : goal.returns-in_err-hand_over
returns-in_err-hand_over g c =
    let segments = c.args.segments.now in
    let i = c.loop-i.i in
    let piece = c.as_bytes.result.now in
    let same : piece ≡ run_line (get_or segments i no_segment) c.start_at-end.result = c.as_bytes.ensures
    ∙ c.fill_run_line.ensures in
    let is =
    run_lines-begin segments c.args.to i c.start_at-end.result piece (omega arith) c.start_at-end.ensures same in
    broken _ c.from_residual.result c.from_residual.ensures.1
    (broken_there _ c.loop-i.invariant c.in_err-hand_over.ensures is)

pub returns : goal.returns
returns g c =
    written_all c.loop-i.invariant
    (run_lines-end c.args.segments.now c.args.to c.loop-i.i (omega arith))
