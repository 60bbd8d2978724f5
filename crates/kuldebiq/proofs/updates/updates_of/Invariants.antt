-- The list has the updates so far.
use Rattle.std.proofs.Common.{◌≡◌, map, take}
use Rattle.kuldebiq.specs.Updates.{update_of}
use Rattle.kuldebiq.proofs.updates.updates_of.Given as goal

abbrev pub invariant-loop-part : goal.invariant-loop-part
invariant-loop-part l = l.updates.items ≡ map update_of (take l.part-index l.parts)
