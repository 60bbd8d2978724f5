use Rattle.commands.proofs.OneText.{one_saved}
use Rattle.commands.proofs.save.one_save.Goals as goal

pub returns : goal.returns
returns c = one_saved
