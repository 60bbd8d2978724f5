-- The levels agree from the lowest up, and the first of one run is the last of both.
use Rattle.levels.proofs.LevelLemmas.{IsIndex-unique}
use Rattle.levels.proofs.index.one_index.Goals as goal

pub returns : goal.returns
returns c = λ keys eps eps_rec one two first second. IsIndex-unique keys eps eps_rec one two first second
