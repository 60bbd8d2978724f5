use Rattle.commands.proofs.OneText.{one_nearest_text}
use Rattle.commands.proofs.neighbours.one_near.Goals as goal

pub returns : goal.returns
returns c = one_nearest_text
