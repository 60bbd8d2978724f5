-- The rows of the table that the program's verbs stand for. No public clause cites it.
use Rattle.std.specs.Prelude.{ℕ, ◌<◌, ◌≤◌, List, length, slice_index, ⊤}
use Rattle.zorder.specs.Codes.{IsDimension}
use Rattle.pgm_script.specs.declared.verb.Verb.{Verb}
use Rattle.pgm_script.specs.Commands.{Command, find_command, box_command, near_command, put_command}
use Rattle.pgm_script.specs.Commands.{del_command, get_command, next_command, count_command, sweep_command}

abbrev pub command_of : Verb → Command
command_of Verb.Find = find_command
command_of (Verb.Box d) = box_command d
command_of (Verb.Near d) = near_command d
command_of Verb.Put = put_command
command_of Verb.Del = del_command
command_of Verb.Get = get_command
command_of Verb.Next = next_command
command_of Verb.Count = count_command
command_of Verb.Sweep = sweep_command

-- a box or a centre has from 2 to 4 coordinates
abbrev pub IsVerb : Verb → Type 0
IsVerb (Verb.Box d) = IsDimension d
IsVerb (Verb.Near d) = IsDimension d
IsVerb verb = ⊤

-- as many numbers in front as there are greatest values, and none above its own
abbrev pub AreWithin : List ℕ → List ℕ → Type 0
AreWithin most numbers = (i : ℕ) → i < length most → slice_index numbers i ≤ slice_index most i
