-- Of two lists those lose their next entry whose key is the least.
use Rattle.std.proofs.Common.{◌-◌, length, take, drop, get_or, sym}
use Rattle.std.proofs.lemmas.Bool.{le-leb, lt-leb, cond-true, cond-false}
use Rattle.tombstones.specs.Parts.{no_entry}
use Rattle.tombstones.proofs.TakingLemmas.{IsTaken, taken-by_keys}
use Rattle.tombstones.proofs.remaining.Remaining.take_lesser.Goals as goal

taken-new : (c : goal.After-result-1) → IsTaken c.args.self.now.newer.now c.args.self.now.older.now
    (take (length c.args.self.now.newer.now - c.from.result) (drop c.from.result c.args.self.now.newer.now))
    (take (length c.args.self.now.older.now - c.from-2.result) (drop c.from-2.result c.args.self.now.older.now))
    (get_or c.args.self.now.newer.now 0 no_entry)
taken-new c = taken-by_keys _ _ _ _ _ _ no_entry _
    c.requires.newer_left c.requires.older_left c.requires.newer_ascending c.requires.older_ascending c.requires.new_key
    c.requires.old_key c.from.ensures c.from-2.ensures (sym (cond-true _ _ _ (le-leb _ _ c.if-takes_new.true)))

taken-old : (c : goal.After-result-else-takes_new-1) → IsTaken c.args.self.now.newer.now c.args.self.now.older.now
    (take (length c.args.self.now.newer.now - c.from.result) (drop c.from.result c.args.self.now.newer.now))
    (take (length c.args.self.now.older.now - c.from-2.result) (drop c.from-2.result c.args.self.now.older.now))
    (get_or c.args.self.now.older.now 0 no_entry)
taken-old c = taken-by_keys _ _ _ _ _ _ no_entry _
    c.requires.newer_left c.requires.older_left c.requires.newer_ascending c.requires.older_ascending c.requires.new_key
    c.requires.old_key c.from.ensures c.from-2.ensures (sym (cond-false _ _ _ (lt-leb _ _ c.if-takes_new.false)))

pub returns-then-takes_new-clause-taken : goal.returns-then-takes_new-clause-taken
returns-then-takes_new-clause-taken c = (taken-new c).taken

pub returns-then-takes_new-clause-least : goal.returns-then-takes_new-clause-least
returns-then-takes_new-clause-least c = (taken-new c).least

pub returns-else-takes_new-clause-taken : goal.returns-else-takes_new-clause-taken
returns-else-takes_new-clause-taken c = (taken-old c).taken

pub returns-else-takes_new-clause-least : goal.returns-else-takes_new-clause-least
returns-else-takes_new-clause-least c = (taken-old c).least
