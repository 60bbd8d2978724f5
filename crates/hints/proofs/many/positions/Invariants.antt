use Rattle.hints.proofs.many.positions.Given as goal

abbrev pub ghosts-positions_from : goal.ghosts-positions_from
ghosts-positions_from g a = record { name = a.blank.name; parts = a.blank.parts }
