-- The commands, each in one row: the definition that `clap` is
-- given, and what it finds for a command, follow from the rows.
use Rattle.std.specs.Prelude.{List, [], ◌∷◌, ◌++◌, Option, codes, bytes_eq, map, find, option_map}
use Rattle.clap.specs.Words.{Text, Row, Rule, Shape, App}
use Rattle.command_line.specs.Application.{command, program_with, build_rules, query_rules, relax_rules, points_rules}
use Rattle.command_line.specs.Application.{replay_rules, mix_rules, hints_rules, find_rules, drill_rules, check_rules}
use Rattle.command_line.specs.Requests.{Request, building_of, query_of, relax_of, searching_of, replaying_of}
use Rattle.command_line.specs.Requests.{mix_of, hinting_of, finding_of, drilling_of, checking_of}
use Rattle.command_line.specs.Requests.Request.{build, explain, box, near, replay, hints}
use Rattle.command_line.specs.Requests.Request.{find as find_of, drill, save, check}

-- a command: its name, its arguments, and what it asks for by what was found for them
pub record Command : Type 0 where
  pub name : Text
  pub rules : List Rule
  pub asks : List Row → Request

abbrev pub row : Text → List Rule → (List Row → Request) → Command
row name rules asks = record { name = name; rules = rules; asks = asks }

-- over the index of a key file
abbrev pub index_commands : List Command
index_commands = row (codes "build") build_rules (λ rows. build (building_of rows))
    ∷ row (codes "explain") build_rules (λ rows. explain (building_of rows))
    ∷ row (codes "query") query_rules query_of
    ∷ row (codes "relax") relax_rules relax_of ∷ []

-- over points, and over a map
abbrev pub script_commands : List Command
script_commands = row (codes "box") points_rules (λ rows. box (searching_of rows))
    ∷ row (codes "near") points_rules (λ rows. near (searching_of rows))
    ∷ row (codes "replay") replay_rules (λ rows. replay (replaying_of rows))
    ∷ row (codes "mix") mix_rules mix_of ∷ []

-- over hints of a key file
abbrev pub hint_commands : List Command
hint_commands = row (codes "hints") hints_rules (λ rows. hints (hinting_of rows))
    ∷ row (codes "find") find_rules (λ rows. find_of (finding_of rows)) ∷ []

-- over what is drawn, and over a saved index
abbrev pub other_commands : List Command
other_commands = row (codes "drill") drill_rules (λ rows. drill (drilling_of rows))
    ∷ row (codes "save") build_rules (λ rows. save (building_of rows))
    ∷ row (codes "check") check_rules (λ rows. check (checking_of rows)) ∷ []

abbrev pub commands : List Command
commands = index_commands ++ script_commands ++ hint_commands ++ other_commands

-- as `clap` is told commands
abbrev pub shapes_of : List Command → List Shape
shapes_of commands = map (λ c. command c.name c.rules) commands

abbrev pub application : App
application = program_with (shapes_of commands)

-- what the command of a name asks for, by what was found for its arguments
abbrev pub request_for : Text → List Row → Option Request
request_for name rows = option_map (λ c. c.asks rows) (find (λ c. bytes_eq name c.name) commands)
