use Rattle.std.proofs.Common.{refl, arith, ◌∷◌, []}
use Rattle.pgm_script.specs.declared.script.ScriptKind.{ScriptKind}
use Rattle.pgm_script.specs.Commands.{find_command}
use Rattle.pgm_script.proofs.PlainLemmas.{begins}
use Rattle.pgm_script.proofs.plain.plain_command.Goals as goal

-- find
pub returns-in-102-clause-command : goal.returns-in-102-clause-command
returns-in-102-clause-command c =
    begins c.args.kind ScriptKind.Find c.args.text.now (102 ∷ 105 ∷ 110 ∷ 100 ∷ [])
    find_command c.in-Find.is c.in-102.len_at_least (omega arith, (omega arith, (omega arith, (omega arith, tt))))
    (omega arith) refl refl refl (omega arith, omega arith)
