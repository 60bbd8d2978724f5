use Rattle.hints.proofs.lookup.position.Given as goal

abbrev pub ghosts-position_from : goal.ghosts-position_from
ghosts-position_from g a = record { name = a.blank.name; parts = a.blank.parts }
