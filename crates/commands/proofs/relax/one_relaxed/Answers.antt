use Rattle.commands.proofs.OneText.{one_relaxed}
use Rattle.commands.proofs.relax.one_relaxed.Goals as goal

pub returns : goal.returns
returns c = one_relaxed
