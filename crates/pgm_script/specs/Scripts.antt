-- What a line is, and what a text is: a script, or one with a first line that is none.
use Rattle.std.specs.Prelude.{◌≡◌, ℕ, ◌+◌, ◌==◌, if◌then◌else◌, List, [], ◌∷◌, ◌++◌, length, slice_index}
use Rattle.std.specs.Prelude.{bytes_eq, find, filter_map, All, Option, Some, None, Result, Ok, Err, IsOk, ⊤}
use Rattle.std.specs.Str.{is_utf8}
use Rattle.std.specs.Str.Lines.{strip_carriage_return}
use Rattle.zorder.specs.Codes.{IsDimension, IsInRange}
use Rattle.zorder.specs.Regions.{IsRegionOf}
use Rattle.pgm_script.specs.declared.script.ScriptKind.{ScriptKind}
use Rattle.pgm_script.specs.declared.script.ScriptLine.{ScriptLine}
use Rattle.pgm_script.specs.declared.fault.ScriptFault.{ScriptFault}
use Rattle.pgm_script.specs.declared.fault.ScriptFault.TheVariants.{At, ReadFault, TooLong, NoMemory}
use Rattle.pgm_script.specs.declared.fault.Why.{Why}
use Rattle.pgm_script.specs.declared.fault.Why.TheVariants.{NotUtf8, Word, Number, Missing, Extra}
use Rattle.pgm_script.specs.Words.{lines_of, words_of, number_of}
use Rattle.pgm_script.specs.Commands.{Command, commands_of}

-- a number in front of others
abbrev pub and_then : Option ℕ → Result (List ℕ) Why → Result (List ℕ) Why
and_then None others = Err Number
and_then (Some number) (Err why) = Err why
and_then (Some number) (Ok numbers) = Ok (number ∷ numbers)

-- the numbers of these words, one for each of these greatest values and none above its own; or what is wrong first
abbrev pub numbers_of : List ℕ → List (List ℕ) → Result (List ℕ) Why
numbers_of [] [] = Ok []
numbers_of [] (word ∷ words) = Err Extra
numbers_of (most ∷ later) [] = Err Missing
numbers_of (most ∷ later) (word ∷ words) = and_then (number_of most word) (numbers_of later words)

-- the line that a command makes of its numbers
abbrev pub made : Command → Result (List ℕ) Why → Result (Option ScriptLine) Why
made command (Ok numbers) = Ok (Some (command.line numbers))
made command (Err why) = Err why

abbrev pub command_reading : Option Command → List (List ℕ) → Result (Option ScriptLine) Why
command_reading None words = Err Word
command_reading (Some command) words = made command (numbers_of command.most words)

-- a line without a word is skipped, and so is one whose first word begins with a `#`
abbrev pub words_reading : ScriptKind → List (List ℕ) → Result (Option ScriptLine) Why
words_reading asked [] = Ok None
words_reading asked (word ∷ words) =
    if slice_index word 0 == 35 then Ok None else command_reading
    (find (λ command. bytes_eq word command.word) (commands_of asked)) words

-- what a line is: nothing, one line of the script, or what is wrong with it first
abbrev pub line_reading : ScriptKind → List ℕ → Result (Option ScriptLine) Why
line_reading asked line =
    if is_utf8 line then words_reading asked (words_of (strip_carriage_return line)) else Err NotUtf8

-- the line of the script, if it is one
abbrev pub script_line : Result (Option ScriptLine) Why → Option ScriptLine
script_line (Ok line) = line
script_line (Err why) = None

-- the lines of the script, in order
abbrev pub script_of : ScriptKind → List (List ℕ) → List ScriptLine
script_of asked lines = filter_map (λ line. script_line (line_reading asked line)) lines

-- nothing is wrong with these lines
abbrev pub AreGood : ScriptKind → List (List ℕ) → Type 0
AreGood asked lines = All (λ line. IsOk (line_reading asked line)) lines

-- line `at` is the first one with something wrong, counted from 1
pub record IsFirstFault (asked : ScriptKind) (text : List ℕ) (at : ℕ) (why : Why) : Type 0 where
  pub before : List (List ℕ)
  pub line : List ℕ
  pub after : List (List ℕ)
  pub lines : lines_of text ≡ before ++ line ∷ after
  pub good : AreGood asked before
  pub place : at ≡ length before + 1
  pub wrong : line_reading asked line ≡ Err why

-- the reading of a text: the lines of the script that it is, or its first fault
abbrev pub ReadsAs : ScriptKind → List ℕ → Result (List ScriptLine) ScriptFault → Type 0
ReadsAs asked text (Ok lines) = AreGood asked (lines_of text) × (lines ≡ script_of asked (lines_of text))
ReadsAs asked text (Err (At line why)) = IsFirstFault asked text line why
ReadsAs asked text (Err ReadFault) = ⊥
ReadsAs asked text (Err (TooLong got)) = ⊥
ReadsAs asked text (Err NoMemory) = ⊥

-- a text has exactly one reading
pub record HasOneReading (asked : ScriptKind) (text : List ℕ) : Type 0 where
  pub reading : Result (List ScriptLine) ScriptFault
  pub is_one : ReadsAs asked text reading
  pub only : (other : Result (List ScriptLine) ScriptFault) → ReadsAs asked text other → other ≡ reading

-- a region or a centre has from 2 to 4 coordinates
abbrev pub IsKind : ScriptKind → Type 0
IsKind ScriptKind.Find = ⊤
IsKind (ScriptKind.Region d) = IsDimension d
IsKind (ScriptKind.Near d) = IsDimension d
IsKind ScriptKind.Replay = ⊤
IsKind ScriptKind.Mix = ⊤

-- a line that a script of this kind can have; a region is one of its dimension, and a centre in its range
abbrev pub IsLineOf : ScriptKind → ScriptLine → Type 0
IsLineOf ScriptKind.Find (ScriptLine.Find q) = ⊤
IsLineOf (ScriptKind.Region d) (ScriptLine.Region region) = IsRegionOf d region
IsLineOf (ScriptKind.Near d) (ScriptLine.Near centre k) = IsInRange d centre
IsLineOf ScriptKind.Replay (ScriptLine.Put key value) = ⊤
IsLineOf ScriptKind.Replay (ScriptLine.Del key) = ⊤
IsLineOf ScriptKind.Replay (ScriptLine.Get key) = ⊤
IsLineOf ScriptKind.Replay (ScriptLine.Next key) = ⊤
IsLineOf ScriptKind.Replay (ScriptLine.Count low high) = ⊤
IsLineOf ScriptKind.Replay (ScriptLine.Sweep low high) = ⊤
IsLineOf ScriptKind.Mix (ScriptLine.Put key value) = ⊤
IsLineOf ScriptKind.Mix (ScriptLine.Del key) = ⊤
IsLineOf ScriptKind.Mix (ScriptLine.Get key) = ⊤
IsLineOf ScriptKind.Mix (ScriptLine.Next key) = ⊤
IsLineOf ScriptKind.Mix (ScriptLine.Count low high) = ⊤
IsLineOf asked line = ⊥
