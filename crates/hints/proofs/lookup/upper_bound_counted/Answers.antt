-- After the greatest number no key is read.
use Rattle.hints.proofs.LookupLemmas.{reads_none}
use Rattle.hints.proofs.lookup.upper_bound_counted.Goals as goal

pub returns-then-q-eq18446744073709551615-clause-worst : goal.returns-then-q-eq18446744073709551615-clause-worst
returns-then-q-eq18446744073709551615-clause-worst g c = reads_none _ _

pub returns-then-q-eq18446744073709551615-clause-near : goal.returns-then-q-eq18446744073709551615-clause-near
returns-then-q-eq18446744073709551615-clause-near g c = λ off order leads. reads_none off _
