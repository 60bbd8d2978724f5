use Rattle.pgm_script.proofs.ScriptLemmas.{has-one-reading}
use Rattle.pgm_script.proofs.grammar.readings_are_one.Goals as goal

pub returns : goal.returns
returns c = λ kind text. has-one-reading kind text
