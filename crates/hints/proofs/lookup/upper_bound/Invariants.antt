use Rattle.hints.proofs.lookup.upper_bound.Given as goal

abbrev pub ghosts-upper_bound_from : goal.ghosts-upper_bound_from
ghosts-upper_bound_from g a = record { name = a.blank.name; parts = a.blank.parts }
