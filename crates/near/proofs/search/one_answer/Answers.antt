use Rattle.near.proofs.NearestLemmas.{codes_small}
use Rattle.near.proofs.OneAnswer.{one_boxes, one_nearest}
use Rattle.near.proofs.search.one_answer.Goals as goal

pub returns-clause-points : goal.returns-clause-points
returns-clause-points c = λ d k centre codes one two are first second.
    one_nearest d k centre codes one two (codes_small d centre are.dimension codes are.each) first second

pub returns-clause-boxes : goal.returns-clause-boxes
returns-clause-boxes c =
    λ d found centre codes one two first second. one_boxes d found centre codes one two first second
