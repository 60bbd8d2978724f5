-- A run that has the predecessor of a question is there.
use Rattle.levels.proofs.ModelLookup.{run_there}
use Rattle.levels.proofs.index.Index.told_by_model.Goals as goal

pub model_of-requires-clause-run : goal.model_of-requires-clause-run
model_of-requires-clause-run c =
    let value = c.args.self.now in
    run_there value.keys value.eps value.eps_rec
    value.levels c.requires.laid.never_falls c.requires.laid.index 0 c.args.run c.args.q c.requires.run
