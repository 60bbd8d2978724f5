use Rattle.commands.proofs.OneDrill.{one_drilled}
use Rattle.commands.proofs.drill.one_drill.Goals as goal

pub returns : goal.returns
returns c = one_drilled
