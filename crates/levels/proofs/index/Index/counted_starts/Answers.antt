-- The runs begin at rising points.
use Rattle.levels.proofs.RunLemmas.{first_x-order}
use Rattle.levels.proofs.index.Index.counted_starts.Goals as goal

pub returns-clause-order : goal.returns-clause-order
returns-clause-order g c =
    let value = c.args.self.now in
    first_x-order
    value.keys value.eps value.eps_rec value.levels c.runs-runs.ensures.never_falls c.runs-runs.ensures.index
