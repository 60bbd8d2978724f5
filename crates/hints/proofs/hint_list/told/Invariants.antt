use Rattle.hints.proofs.hint_list.told.Given as goal

abbrev pub ghosts-lines_begun : goal.ghosts-lines_begun
ghosts-lines_begun a = record { name = a.blank.name; parts = a.blank.parts }
