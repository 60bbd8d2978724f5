-- A list alone has no entry up to the key taken.
use Rattle.tombstones.proofs.EntryLemmas.{ascending_rest, absent_in_rest, absent_in_empty, absent_in_both}
use Rattle.tombstones.proofs.remaining.Remaining.take_least.Goals as goal

pub returns-in-Some-None-clause-newer_ascending : goal.returns-in-Some-None-clause-newer_ascending
returns-in-Some-None-clause-newer_ascending c =
    ascending_rest _ _ _ c.in-Some-None.ensures.cases.0 c.requires.newer_ascending

pub returns-in-Some-None-clause-least : goal.returns-in-Some-None-clause-least
returns-in-Some-None-clause-least c key le =
    let newer_absent = absent_in_rest _ _ _ c.in-Some-None.ensures.cases.0 c.requires.newer_ascending key le in
    let older_absent = absent_in_empty _ key c.in-Some-None.ensures'.cases in
    absent_in_both _ _ key newer_absent older_absent

pub returns-in-None-Some-clause-older_ascending : goal.returns-in-None-Some-clause-older_ascending
returns-in-None-Some-clause-older_ascending c =
    ascending_rest _ _ _ c.in-None-Some.ensures'.cases.0 c.requires.older_ascending

pub returns-in-None-Some-clause-least : goal.returns-in-None-Some-clause-least
returns-in-None-Some-clause-least c key le =
    let newer_absent = absent_in_empty _ key c.in-None-Some.ensures.cases in
    let older_absent = absent_in_rest _ _ _ c.in-None-Some.ensures'.cases.0 c.requires.older_ascending key le in
    absent_in_both _ _ key newer_absent older_absent
