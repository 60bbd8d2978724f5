-- Each level has a segmentation, and the first of one run is the last.
use Rattle.levels.proofs.IndexExists.{IsIndex-some}
use Rattle.levels.proofs.index.some_index.Goals as goal

pub returns : goal.returns
returns c = λ keys eps eps_rec order. IsIndex-some keys eps eps_rec order
