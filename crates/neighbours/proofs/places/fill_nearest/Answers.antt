-- What was chosen stays chosen in its order.
use Rattle.std.proofs.Common.{rules}
use Rattle.std.proofs.lemmas.List.Sorted.{IsNonDecreasingBy-from_sort_by}
use Rattle.neighbours.specs.Metrics.{AreInOrder, far}
use Rattle.neighbours.specs.Neighbours.{neighbours_from, rank_of}
use Rattle.neighbours.proofs.NearestLemmas.{chosen_permuted}
use Rattle.neighbours.proofs.places.fill_nearest.Goals as goal

pub returns-clause-chosen : goal.returns-clause-chosen
returns-clause-chosen g c =
    chosen_permuted (AreInOrder c.args.centre.now.d c.args.codes.now)
    (neighbours_from (far g.M.Metric.step c.args.centre.now.d c.args.centre.now.coords) 0 c.args.codes.now)
    c.keep_around.new.kept c.sort_unstable_by.new.self c.sort_unstable_by.ensures.permutation
    c.keep_around.ensures.chosen

pub returns-clause-order : goal.returns-clause-order
returns-clause-order g c =
    IsNonDecreasingBy-from_sort_by rank_of _ c.sort_unstable_by.ensures.sorted (λ a r q k. search rules)
