-- The lower bound of each question is one of the places left.
use Rattle.std.proofs.Common.{◌^◌, ◌<◌}
use Rattle.key_search.specs.Interleaved.{HaveBounds}
use Rattle.key_search.proofs.interleaved.bounds_interleaved.Given as goal

abbrev pub invariant-loop-shift : goal.invariant-loop-shift
invariant-loop-shift l = record { short : l.shift < 32; bounds : HaveBounds l.list l.qs l.bases (2 ^ l.shift) }

abbrev pub decreases-loop-shift : goal.decreases-loop-shift
decreases-loop-shift l = l.shift
