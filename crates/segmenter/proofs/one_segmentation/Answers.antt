-- The greedy starts are one list, and each run has one pair and one cut.
use Rattle.exact_cross.proofs.Unique.{IsSegmentation-unique}
use Rattle.segmenter.proofs.one_segmentation.Goals as goal

pub returns : goal.returns
returns c =
    λ p eps from to one two ascends inside first second. IsSegmentation-unique p eps from to one two first second
