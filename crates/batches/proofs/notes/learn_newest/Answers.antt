use Rattle.published.proofs.CallerLemmas.{prefix_self}
use Rattle.batches.proofs.notes.learn_newest.Goals as goal

pub returns-in_default-clause-seen : goal.returns-in_default-clause-seen
returns-in_default-clause-seen g c = prefix_self c.args.reader.now.batches
