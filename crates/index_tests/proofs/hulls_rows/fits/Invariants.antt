-- The counter's ledger is the new one.
use Rattle.index_tests.proofs.hulls_rows.fits.Given as goal

abbrev pub ghosts-fit : goal.ghosts-fit
ghosts-fit g a = record { name = a.blank.name; parts = a.blank.parts }
