-- The nearest of the pairs kept and those of the codes so far.
use Rattle.std.proofs.Common.{take}
use Rattle.near.specs.Kept.{AreKept, IsHeapFrom}
use Rattle.near.specs.Nearest.{pairs_of}
use Rattle.near.proofs.walk.keep_each.Given as goal

abbrev pub invariant-loop-code : goal.invariant-loop-code
invariant-loop-code l = record {
  kept : AreKept l.fn.kept (pairs_of l.d l.centre (take l.code-index l.codes)) l.kept;
  heap : IsHeapFrom 0 l.kept;
}
