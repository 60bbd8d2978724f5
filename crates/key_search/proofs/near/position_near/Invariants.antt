use Rattle.key_search.proofs.near.position_near.Given as goal

abbrev pub ghosts-brackets : goal.ghosts-brackets
ghosts-brackets g a = record { name = a.blank.name; parts = a.blank.parts }
