-- Level by level.
use Rattle.levels.proofs.LevelLemmas.{IsRelaxedIndex-unique}
use Rattle.levels.proofs.index.one_relaxed_index.Goals as goal

pub returns : goal.returns
returns c =
    λ keys eps eps_rec cuts one two first second. IsRelaxedIndex-unique keys eps eps_rec cuts one two first second
