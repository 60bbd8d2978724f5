use Rattle.command_line.proofs.TakenWords.{some_request}
use Rattle.command_line.proofs.words.taken_words_ask.Goals as goal

pub returns : goal.returns
returns c = some_request
