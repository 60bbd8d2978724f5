-- Each row has a counter of its own.
use Rattle.index_tests.proofs.window_search_rows.searches.Given as goal

abbrev pub ghosts-finds : goal.ghosts-finds
ghosts-finds g a = record { name = a.blank.name; parts = a.blank.parts }
