-- The counter's ledger is the new one.
use Rattle.index_tests.proofs.readme_examples.examples_that_count.Given as goal

abbrev pub ghosts-counted : goal.ghosts-counted
ghosts-counted g a = record { name = a.blank.name; parts = a.blank.parts }
