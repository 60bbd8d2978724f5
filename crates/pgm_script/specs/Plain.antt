-- A line as it is mostly written, at the front of a text. No public clause cites it.
use Rattle.std.specs.Prelude.{◌≡◌, ℕ, ◌<◌, ◌≤◌, true, List, ◌∷◌, ◌++◌, length, replicate, bytes_eq, find, All, Some, Ok}
use Rattle.std.specs.Char.{is_ascii_digit}
use Rattle.std.specs.List.{list_all}
use Rattle.std.specs.Str.Parse.{digits_value}
use Rattle.pgm_script.specs.declared.script.ScriptKind.{ScriptKind}
use Rattle.pgm_script.specs.declared.script.ScriptLine.{ScriptLine}
use Rattle.pgm_script.specs.Words.{lines_of}
use Rattle.pgm_script.specs.Commands.{Command, commands_of, any}
use Rattle.pgm_script.specs.Scripts.{line_reading}

-- small letters
abbrev pub AreLetters : List ℕ → Type 0
AreLetters word = All (λ byte. (97 ≤ byte) × (byte ≤ 122)) word

-- a command of the kind that takes one or two numbers, of any value
pub record BeginsWithCommand (kind : ScriptKind) (text : List ℕ) (command : Command) (after : List ℕ) : Type 0 where
  pub word : List ℕ
  pub parts : text ≡ word ++ after
  pub some : 0 < length word
  pub letters : AreLetters word
  pub found : find (λ command. bytes_eq word command.word) (commands_of kind) ≡ Some command
  pub any_value : command.most ≡ replicate (length command.most) any
  pub counted : (1 ≤ length command.most) × (length command.most ≤ 2)

-- a space, and digits that write this number
pub record BeginsWithDigits (text : List ℕ) (number : ℕ) (after : List ℕ) : Type 0 where
  pub digits : List ℕ
  pub parts : text ≡ 32 ∷ (digits ++ after)
  pub some : 0 < length digits
  pub are : list_all is_ascii_digit digits ≡ true
  pub value : number ≡ digits_value 10 digits
  pub fits : number ≤ any

-- a line that is this one of the script
pub record BeginsWithLine (kind : ScriptKind) (text : List ℕ) (made : ScriptLine) (after : List ℕ) : Type 0 where
  pub line : List ℕ
  pub cut : lines_of text ≡ line ∷ lines_of after
  pub is : line_reading kind line ≡ Ok (Some made)
  pub shorter : length after < length text
