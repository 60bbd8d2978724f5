-- Each level has a window of the run found above it.
use Rattle.levels.proofs.IndexLemmas.{AreWindows-some}
use Rattle.levels.proofs.WindowsExist.{AreWindows-some as laid_windows-some}
use Rattle.levels.proofs.windows.some_windows.Goals as goal

pub returns-clause-index : goal.returns-clause-index
returns-clause-index c = λ keys eps eps_rec levels q order index. AreWindows-some keys eps eps_rec levels order index q

pub returns-clause-laid : goal.returns-clause-laid
returns-clause-laid c = λ keys eps eps_rec levels q order index. laid_windows-some keys eps eps_rec levels order index q
