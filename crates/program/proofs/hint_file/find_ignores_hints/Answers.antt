use Rattle.program.proofs.OtherHints.{same_outcome}
use Rattle.program.proofs.hint_file.find_ignores_hints.Goals as goal

pub returns : goal.returns
returns c = λ words finding outcome files others asks same_keys same_script some also.
    same_outcome files others finding same_keys same_script some also words asks outcome
