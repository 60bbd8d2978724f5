use Rattle.commands.proofs.OneText.{one_built}
use Rattle.commands.proofs.build.one_build.Goals as goal

pub returns : goal.returns
returns c = one_built
