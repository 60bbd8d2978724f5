use Rattle.commands.proofs.OneText.{one_explained}
use Rattle.commands.proofs.explain.one_explain.Goals as goal

pub returns : goal.returns
returns c = one_explained
