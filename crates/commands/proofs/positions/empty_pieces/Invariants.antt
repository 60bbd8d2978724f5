use Rattle.std.proofs.Common.{◌≡◌, ◌≤◌}
use Rattle.std.specs.Prelude.{All, vec_capacity, vec_len}
use Rattle.commands.proofs.positions.empty_pieces.Given as goal

-- so many pieces are there, each with its room
abbrev pub invariant-loop : goal.invariant-loop
invariant-loop l =
    (vec_len l.pieces ≡ l.counter) × All (λ piece. (vec_len piece ≡ 0) × (l.size ≤ vec_capacity piece)) l.pieces.items
