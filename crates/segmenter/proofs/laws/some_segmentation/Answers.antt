-- From each place there is a longest run, and what is behind it has a segmentation.
use Rattle.segmenter.proofs.SegmentsExist.{IsSegmentation-some}
use Rattle.segmenter.proofs.laws.some_segmentation.Goals as goal

pub returns : goal.returns
returns c = λ p eps from to ascends within inside. IsSegmentation-some p eps from to ascends within inside
