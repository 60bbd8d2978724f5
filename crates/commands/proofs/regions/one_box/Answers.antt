use Rattle.commands.proofs.OneText.{one_searched}
use Rattle.commands.proofs.regions.one_box.Goals as goal

pub returns : goal.returns
returns c = one_searched
