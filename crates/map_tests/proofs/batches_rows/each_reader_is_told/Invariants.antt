-- the slots are those of the map that was started
use Rattle.map_tests.proofs.batches_rows.each_reader_is_told.Given as goal

abbrev pub ghosts-all_informed : goal.ghosts-all_informed
ghosts-all_informed g a = record { origin = a.writer.now.origin }
