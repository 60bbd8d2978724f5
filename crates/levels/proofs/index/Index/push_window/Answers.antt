-- One window more.
use Rattle.levels.proofs.WindowLists.{HasWindowsTo-more}
use Rattle.levels.proofs.index.Index.push_window.Goals as goal

pub returns-clause-windows : goal.returns-clause-windows
returns-clause-windows c =
    let value = c.args.self.now in
    let found = c.window_of-low in
    rw (c.push_reserved.ensures.items)
    (HasWindowsTo-more value c.args.q c.args.level found.result.0 found.result.1 c.args.into.now.items c.requires.above
    found.ensures.exact (record { holds = found.ensures.holds; narrow = found.ensures.narrow }))
