-- The codes of the blocks before are decoded.
use Rattle.std.proofs.Common.{◌≡◌, ℕ, ◌*◌, ◌<◌, get_or}
use Rattle.zorder.specs.Codes.{coordinate}
use Rattle.zorder.proofs.triples.decode_triples.Given as goal

abbrev pub invariant-loop-block : goal.invariant-loop-block
invariant-loop-block l = record {
  firsts : (i : ℕ) → i < 4 * l.block → get_or l.firsts i 0 ≡ coordinate 3 0 (get_or l.codes i 0);
  seconds : (i : ℕ) → i < 4 * l.block → get_or l.seconds i 0 ≡ coordinate 3 1 (get_or l.codes i 0);
  thirds : (i : ℕ) → i < 4 * l.block → get_or l.thirds i 0 ≡ coordinate 3 2 (get_or l.codes i 0);
}
