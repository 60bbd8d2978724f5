use Rattle.commands.proofs.OneText.{one_answered}
use Rattle.commands.proofs.query.one_query.Goals as goal

pub returns : goal.returns
returns c = λ keys bounds questions windows one two order. one_answered keys bounds order questions windows one two
