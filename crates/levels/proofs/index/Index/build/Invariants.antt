-- The counter's ledger is the new one.
use Rattle.levels.proofs.index.Index.build.Given as goal

abbrev pub ghosts-levels_from : goal.ghosts-levels_from
ghosts-levels_from g a = record { name = a.blank.name; parts = a.blank.parts }
