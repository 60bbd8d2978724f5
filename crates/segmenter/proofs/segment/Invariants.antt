-- The counter's ledger is the new one.
use Rattle.segmenter.proofs.segment.Given as goal

abbrev pub ghosts-segment_from : goal.ghosts-segment_from
ghosts-segment_from a = record { name = a.blank.name; parts = a.blank.parts }
