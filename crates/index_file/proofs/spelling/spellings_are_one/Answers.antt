-- The pieces of a spelling can be told apart from what follows them, and a spelling is what is written.
use Rattle.std.proofs.Common.{sym, ◌∙◌}
use Rattle.index_file.proofs.Unique.{IsSpelling-unique}
use Rattle.index_file.proofs.spelling.spellings_are_one.Goals as goal

pub returns : goal.returns
returns c = record {
  one_index = IsSpelling-unique;
  one_spelling = λ index first second one two. one.written ∙ sym two.written;
}
