-- The counter's ledger is the new one.
use Rattle.piece_join.proofs.joining.join.Given as goal

abbrev pub ghosts-join_from : goal.ghosts-join_from
ghosts-join_from a = record { name = a.blank.name; parts = a.blank.parts }
