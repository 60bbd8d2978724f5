-- Which words ask for what.
use Rattle.std.specs.Prelude.{◌≡◌, ◌≢◌, List, [], Option, Some, option_and_then}
use Rattle.clap.specs.Words.{Text, fault_of, subcommand_of}
use Rattle.command_line.specs.Requests.{Request}
use Rattle.command_line.specs.Commands.{application, request_for}

-- `clap` finds nothing wrong with the words
abbrev pub AreTaken : List Text → Type 0
AreTaken words = fault_of application words ≡ []

abbrev pub AreRefused : List Text → Type 0
AreRefused words = fault_of application words ≢ []

-- what is asked for by the command that the words name
abbrev pub request_of : List Text → Option Request
request_of words = option_and_then (λ p. request_for p.0 p.1) (subcommand_of application words)

-- the words are taken, and ask for this
pub record AskFor (words : List Text) (request : Request) : Type 0 where
  pub taken : AreTaken words
  pub asks : request_of words ≡ Some request
