-- The list has the pairs so far.
use Rattle.std.proofs.Common.{◌≡◌, map, take}
use Rattle.kuldebiq.specs.Pairs.{tuple_of}
use Rattle.kuldebiq.proofs.load_calls.tuples_of.Given as goal

abbrev pub invariant-loop-pair : goal.invariant-loop-pair
invariant-loop-pair l = l.tuples.items ≡ map tuple_of (take l.pair-index l.pairs)
