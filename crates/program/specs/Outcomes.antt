-- What the words and the files define: a text, or a refusal.
use Rattle.std.specs.Prelude.{◌≡◌, ◌⊎◌, ℕ, List, Result, Ok, Err}
use Rattle.edge.specs.Risen.{HasRisen}
use Rattle.command_line.specs.Requests.{Request}
use Rattle.command_line.specs.Words.{AreRefused, AskFor}
use Rattle.program.specs.declared.refusal.Refusal.{Refusal}
use Rattle.program.specs.declared.refusal.Refusal.TheVariants.{Usage, ReadFault}
use Rattle.program.specs.declared.status.Status.{Status}
use Rattle.program.specs.declared.status.Status.TheVariants.{Done, WriteFault}
use Rattle.program.specs.Files.{Files}
use Rattle.program.specs.Refusals.{status_of}
use Rattle.commands.specs.Tasks.{Task}
use Rattle.program.specs.Inputs.{reads}
use Rattle.commands.specs.Texts.{IsText}

-- what there is to do, or why there is nothing: the words are judged first, then each input in turn
pub data Defines (files : Files) (words : List (List ℕ)) : Result Task Refusal → Type 0 where
  no_command : AreRefused words → Defines files words (Err Usage)
  asked : (request : Request) (reading : Result Task Refusal) → AskFor words request →
      reads files request reading → Defines files words reading

-- a text, or a refusal
pub data Outcome : Type 0 where
  text : (pieces : List (List ℕ)) → Outcome
  refused : (refusal : Refusal) → Outcome

-- the text of the task, or the refusal, that the words and the files define
abbrev pub IsOutcome : Files → List (List ℕ) → Outcome → Type 0
IsOutcome files words (text pieces) = (task : Task) × Defines files words (Ok task) × IsText task pieces
IsOutcome files words (refused refusal) = Defines files words (Err refusal)

-- why a run refuses: a call on the files failed, or else the words and the files define it
abbrev pub IsCause : Files → List (List ℕ) → (before after : ℕ) → Refusal → Type 0
IsCause files words before after ReadFault = HasRisen before after
IsCause files words before after refusal = IsOutcome files words (refused refusal)

-- the status that this leads to: the text of a task is written, or breaks off
abbrev pub EndsAs : Result Task Refusal → Status → Type 0
EndsAs (Ok task) status = (status ≡ Done) ⊎ (status ≡ WriteFault)
EndsAs (Err refusal) status = status ≡ status_of refusal
