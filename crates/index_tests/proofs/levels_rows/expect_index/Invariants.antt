-- The counter's ledger is the new one.
use Rattle.index_tests.proofs.levels_rows.expect_index.Given as goal

abbrev pub ghosts-compared_counted : goal.ghosts-compared_counted
ghosts-compared_counted g a = record { name = a.blank.name; parts = a.blank.parts }
