use Rattle.std.proofs.Common.{◌∙◌}
use Rattle.pgm_script.proofs.Texts.{utf8-answer}
use Rattle.pgm_script.proofs.line.is_utf8.Goals as goal

pub returns : goal.returns
returns c = c.is_ok.ensures.value ∙ utf8-answer c.args.line.now _ _ _ c.from_utf8.ensures.cases
