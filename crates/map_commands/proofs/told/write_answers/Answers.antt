use Rattle.std.proofs.Common.{◌∙◌, arith}
use Rattle.written.proofs.LoopLemmas.{written_none, mapped_more, mapped_broken, mapped_all}
use Rattle.log_levels.specs.Maps.{map_after}
use Rattle.map_replay.specs.declared.question.Question.TheVariants.{Get}
use Rattle.map_commands.specs.Replay.{end_line}
use Rattle.written.proofs.WritingLemmas.{broken}
use Rattle.map_commands.proofs.told.write_answers.Goals as goal

pub loop-i-init : goal.loop-i-init
loop-i-init g c = written_none

pub loop-i-preserved : goal.loop-i-preserved
loop-i-preserved g c =
    let pairs = map_after c.args.updates.now in
    mapped_more (end_line pairs) c.args.questions.now c.loop-i.i c.loop-i.invariant (Get 0) c.in_ok-hand_over.ensures
    (omega arith) (c.as_bytes.ensures ∙ c.fill_end.ensures pairs (c.answer.ensures pairs c.requires))

pub returns-in_err-hand_over : goal.returns-in_err-hand_over
returns-in_err-hand_over g c =
    let pairs = map_after c.args.updates.now in
    broken _ c.from_residual.result c.from_residual.ensures.1
    (mapped_broken (end_line pairs) c.args.questions.now c.loop-i.i c.loop-i.invariant
    (Get 0) c.in_err-hand_over.ensures
    (omega arith) (c.as_bytes.ensures ∙ c.fill_end.ensures pairs (c.answer.ensures pairs c.requires)))

pub returns : goal.returns
returns g c =
    mapped_all
    (end_line (map_after c.args.updates.now)) c.args.questions.now c.loop-i.i c.loop-i.invariant (omega arith)
