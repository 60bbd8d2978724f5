-- The counter's ledger is the new one.
use Rattle.piece_join.proofs.pieces.segment_in_pieces.Given as goal

abbrev pub ghosts-joined_from : goal.ghosts-joined_from
ghosts-joined_from g a = record { name = a.blank.name; parts = a.blank.parts }
