-- The counter's ledger is the new one.
use Rattle.index_tests.proofs.segmenter_rows.compared.Given as goal

abbrev pub ghosts-counts_rows : goal.ghosts-counts_rows
ghosts-counts_rows g a = record { name = a.blank.name; parts = a.blank.parts }
