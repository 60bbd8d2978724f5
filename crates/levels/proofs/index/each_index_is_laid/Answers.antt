-- A segmentation is laid, and so are segmentations side by side.
use Rattle.levels.proofs.LevelLemmas.{IsLaidIndex-from_index, IsLaidIndex-from_relaxed}
use Rattle.levels.proofs.index.each_index_is_laid.Goals as goal

pub returns-clause-index : goal.returns-clause-index
returns-clause-index c = λ keys eps eps_rec levels index. IsLaidIndex-from_index keys eps eps_rec levels index

pub returns-clause-relaxed : goal.returns-clause-relaxed
returns-clause-relaxed c =
    λ keys eps eps_rec cuts levels are index. IsLaidIndex-from_relaxed keys eps eps_rec cuts levels are index
