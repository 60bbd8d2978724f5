-- The window that is answered is the one of the definition, which holds them.
use Rattle.std.proofs.Common.{rules}
use Rattle.window_search.specs.Windows.{IsWindow}
use Rattle.window_search.proofs.WindowLemmas.{window_holds}
use Rattle.window_search.proofs.windows.window.Goals as goal

pub returns-clause-holds : goal.returns-clause-holds
returns-clause-holds c =
    let a = c.args in
    let window : IsWindow a.line.now a.low a.high a.eps a.q a.len c.saturating_sub.result c.min.result = search rules in
    λ points s e i place. window_holds points a.line.now a.low a.high a.eps a.q a.len _ _ s e i place window
