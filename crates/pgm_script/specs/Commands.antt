-- The commands of scripts: one table for all kinds.
use Rattle.std.specs.Prelude.{ℕ, Bool, true, false, if◌then◌else◌, ◌+◌, ◌-◌, ◌^◌, List}
use Rattle.std.specs.Prelude.{[], ◌∷◌, ◌++◌, take, drop, replicate, slice_index, codes}
use Rattle.zorder.specs.declared.regions.Region.{Region}
use Rattle.zorder.specs.Codes.{coordinate_bits}
use Rattle.pgm_script.specs.declared.script.ScriptKind.{ScriptKind}
use Rattle.pgm_script.specs.declared.script.ScriptLine.{ScriptLine}

-- a command: its word, the greatest value of each number that follows, and the line of the script that these make
pub record Command : Type 0 where
  pub word : List ℕ
  pub most : List ℕ
  pub line : List ℕ → ScriptLine

-- the greatest number
abbrev pub any : ℕ
any = 18446744073709551615

-- the greatest coordinate of d
abbrev pub greatest : ℕ → ℕ
greatest d = 2 ^ coordinate_bits d - 1

-- the greatest number of points that are asked for
abbrev pub most_points : ℕ
most_points = 4294967295

abbrev pub first : List ℕ → ℕ
first numbers = slice_index numbers 0

abbrev pub second : List ℕ → ℕ
second numbers = slice_index numbers 1

-- a corner of a region, or a centre: its first d coordinates, and 0 for the others
abbrev pub corner : ℕ → List ℕ → List ℕ
corner d numbers = take d numbers ++ replicate (4 - d) 0

-- the region of d coordinates whose low corner comes first
abbrev pub region_of : ℕ → List ℕ → Region
region_of d numbers = record { d = d; low = corner d numbers; high = corner d (drop d numbers) }

abbrev pub find_command : Command
find_command = record { word = codes "find"; most = any ∷ []; line = λ numbers. ScriptLine.Find (first numbers) }

abbrev pub box_command : ℕ → Command
box_command d =
    record {
      word = codes "box";
      most = replicate (d + d) (greatest d);
      line = λ numbers. ScriptLine.Region (region_of d numbers);
    }

abbrev pub near_command : ℕ → Command
near_command d =
    record {
      word = codes "near";
      most = replicate d (greatest d) ++ most_points ∷ [];
      line = λ numbers. ScriptLine.Near (corner d numbers) (slice_index numbers d);
    }

abbrev pub put_command : Command
put_command =
    record {
      word = codes "put";
      most = any ∷ any ∷ [];
      line = λ numbers. ScriptLine.Put (first numbers) (second numbers);
    }

abbrev pub del_command : Command
del_command = record { word = codes "del"; most = any ∷ []; line = λ numbers. ScriptLine.Del (first numbers) }

abbrev pub get_command : Command
get_command = record { word = codes "get"; most = any ∷ []; line = λ numbers. ScriptLine.Get (first numbers) }

abbrev pub next_command : Command
next_command = record { word = codes "next"; most = any ∷ []; line = λ numbers. ScriptLine.Next (first numbers) }

abbrev pub count_command : Command
count_command =
    record {
      word = codes "count";
      most = any ∷ any ∷ [];
      line = λ numbers. ScriptLine.Count (first numbers) (second numbers);
    }

abbrev pub sweep_command : Command
sweep_command =
    record {
      word = codes "sweep";
      most = any ∷ any ∷ [];
      line = λ numbers. ScriptLine.Sweep (first numbers) (second numbers);
    }

-- the commands on a map; `sweep` is one only where sweeps may stand
abbrev pub map_commands : (sweeps : Bool) → List Command
map_commands sweeps =
    put_command ∷ del_command ∷ get_command ∷ next_command ∷ count_command ∷ (if sweeps then sweep_command ∷ [] else [])

-- the kind of a script of such commands
abbrev pub map_kind : (sweeps : Bool) → ScriptKind
map_kind true = ScriptKind.Replay
map_kind false = ScriptKind.Mix

-- the commands of a kind
abbrev pub commands_of : ScriptKind → List Command
commands_of ScriptKind.Find = find_command ∷ []
commands_of (ScriptKind.Region d) = box_command d ∷ []
commands_of (ScriptKind.Near d) = near_command d ∷ []
commands_of ScriptKind.Replay = map_commands true
commands_of ScriptKind.Mix = map_commands false
