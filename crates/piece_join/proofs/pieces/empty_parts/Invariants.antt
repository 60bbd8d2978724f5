-- So many parts are there.
use Rattle.std.proofs.Common.{◌≡◌, vec_len}
use Rattle.piece_join.proofs.pieces.empty_parts.Given as goal

abbrev pub invariant-loop-number : goal.invariant-loop-number
invariant-loop-number l = vec_len l.parts ≡ l._number
