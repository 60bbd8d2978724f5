-- Each place has one run, and each run one window.
use Rattle.levels.proofs.IndexLemmas.{AreWindows-unique}
use Rattle.levels.proofs.WindowLists.{AreWindows-unique as laid_windows-unique}
use Rattle.levels.proofs.windows.one_list_of_windows.Goals as goal

pub returns-clause-index : goal.returns-clause-index
returns-clause-index c = λ keys eps eps_rec levels q one two order index first second.
    AreWindows-unique keys eps eps_rec levels order index q one two first second

pub returns-clause-laid : goal.returns-clause-laid
returns-clause-laid c = λ keys eps eps_rec levels q one two order index first second.
    laid_windows-unique keys eps eps_rec levels order index q one two first second
