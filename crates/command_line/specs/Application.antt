-- What `clap` is told: the arguments of each command, and the program with its commands.
use Rattle.std.specs.Prelude.{◌≡◌, ℕ, List, [], ◌∷◌, ◌++◌, Some, true, false, pos, codes}
use Rattle.clap.specs.Words.{Text, Rule, Shape, App, app_of, new_rule, rule_of}
use Rattle.clap.specs.Simple.{new_shape}
use Rattle.clap.specs.declared.builder.arg.Arg.{Arg}
use Rattle.clap.specs.declared.builder.command.Command.{Command}
use Rattle.clap.specs.declared.builder.command.Command.TheViews.{out-Command}
use Rattle.clap.specs.declared.builder.action.ArgAction.TheVariants.{SetTrue}
use Rattle.clap.specs.declared.builder.value_parser.ValueParser.TheVariants as parser
use Rattle.exact_cross.specs.declared.TheConstants.{MAX_EPSILON}
use Rattle.options.specs.declared.drawing.TheConstants.{MAX_DRAWN, MAX_SEED}
use Rattle.options.specs.declared.index.TheConstants.{MAX_BITS, MAX_PIECES, MAX_WORKERS}
use Rattle.options.specs.declared.map.TheConstants.{MAX_LEVELS, MAX_READERS, MAX_SENDERS}
use Rattle.command_line.specs.declared.request.TheConstants.{MAX_BATCH}

-- a name that has to be given
abbrev pub positional : Text → Rule
positional name = record (new_rule name) { required = true }

-- a number from `low` to `high`
abbrev pub ranged : Text → (low high : ℕ) → Rule
ranged name low high = record (new_rule name) { parser = Some (parser.Signed (pos low) (pos high)) }

-- one that has to be given
abbrev pub positional_number : Text → (low high : ℕ) → Rule
positional_number name low high = record (ranged name low high) { required = true }

-- `--NAME N`, with N from `low` to `high`, and `default` where it isn't given
abbrev pub number : Text → (low high : ℕ) → Text → Rule
number name low high default = record (ranged name low high) { long = Some name; defaults = default ∷ [] }

-- `--NAME`, given or not
abbrev pub flag : Text → Rule
flag name = record (new_rule name) { long = Some name; action = Some SetTrue }

-- a command with these arguments
abbrev pub command : Text → List Rule → Shape
command name rules = record (new_shape name) { rules = rules }

-- an argument that `clap` keeps as this rule, and as its command's own
pub record IsArgument (rule : Rule) (argument : Arg) : Type 0 where
  pub is : rule_of argument ≡ rule
  pub local : argument.global ≡ false

-- a command that `clap` keeps as this name and these arguments, all its own
pub record IsCommandOf (name : Text) (rules : List Rule) (made : Command) : Type 0 where
  pub shape : app_of made ≡ record { top = command name rules; subs = [] }
  pub local : (out-Command made).has_globals ≡ false

-- the error bound of level 0, that of the levels above, and how many workers there are
abbrev pub eps_rule : Rule
eps_rule = number (codes "eps") 0 MAX_EPSILON (codes "64")

abbrev pub eps_rec_rule : Rule
eps_rec_rule = number (codes "rec") 0 MAX_EPSILON (codes "4")

abbrev pub workers_rule : Rule
workers_rule = number (codes "workers") 1 MAX_WORKERS (codes "4")

-- how an index is built
abbrev pub bounds_rules : List Rule
bounds_rules = eps_rule ∷ eps_rec_rule ∷ workers_rule ∷ []

-- of a key file
abbrev pub index_rules : List Rule
index_rules = positional (codes "FILE") ∷ bounds_rules

-- and how wide its keys are
abbrev pub build_rules : List Rule
build_rules = index_rules ++ flag (codes "narrow") ∷ []

-- and a script of questions, and how many bits of a key a table goes by, if there is one
abbrev pub query_rules : List Rule
query_rules = build_rules ++ positional (codes "SCRIPT") ∷ flag (codes "windows")
    ∷ number (codes "buckets") 0 MAX_BITS (codes "0") ∷ []

-- and a script of questions, and into how many pieces the points are cut
abbrev pub relax_rules : List Rule
relax_rules = build_rules ++ positional (codes "SCRIPT") ∷ number (codes "pieces") 1 MAX_PIECES (codes "4") ∷ []

-- a file of points with so many coordinates each, and a script of what is asked of them
abbrev pub points_rules : List Rule
points_rules = positional (codes "FILE") ∷ positional (codes "SCRIPT") ∷ number (codes "dims") 2 4 (codes "2") ∷ []

-- a script of updates and questions, how many levels the map has that
-- they are made to and asked of, and how many updates a batch has
abbrev pub batch_rules : List Rule
batch_rules = positional (codes "SCRIPT")
    ∷ number (codes "levels") 1 MAX_LEVELS (codes "20") ∷ number (codes "batch") 1 MAX_BATCH (codes "16") ∷ []

-- and how many readers ask beside the writer
abbrev pub replay_rules : List Rule
replay_rules = batch_rules ++ number (codes "readers") 0 MAX_READERS (codes "0") ∷ workers_rule ∷ []

-- and among how many senders the updates are dealt out
abbrev pub mix_rules : List Rule
mix_rules = replay_rules ++ number (codes "senders") 1 MAX_SENDERS (codes "2") ∷ []

-- how many inputs are drawn of each kind, a seed, and how an index is built
abbrev pub drill_rules : List Rule
drill_rules = positional_number (codes "N") 1 MAX_DRAWN ∷ positional_number (codes "SEED") 0 MAX_SEED ∷ bounds_rules

-- a key file, a saved index, and how wide the keys are
abbrev pub check_rules : List Rule
check_rules = positional (codes "FILE") ∷ positional (codes "INDEX") ∷ flag (codes "narrow") ∷ []

-- a key file, the error bound of its hints, and how wide the keys are
abbrev pub hints_rules : List Rule
hints_rules = positional (codes "FILE") ∷ number (codes "eps") 0 MAX_EPSILON (codes "32") ∷ flag (codes "narrow") ∷ []

-- a key file, a file of hints, a script of questions, and how wide the keys are
abbrev pub find_rules : List Rule
find_rules =
    positional (codes "FILE") ∷ positional (codes "HINTS") ∷ positional (codes "SCRIPT") ∷ flag (codes "narrow") ∷ []

-- the program before its commands. No public clause cites it
abbrev pub bare_program : App
bare_program = record {
  top = record (new_shape (codes "pgmtool")) {
    disable_help_flag = true;
    disable_help_subcommand = true;
    disable_version_flag = true;
    subcommand_required = true;
  };
  subs = [];
}

-- the program with these commands: one of them has to be given, and it tells no help and no version
abbrev pub program_with : List Shape → App
program_with commands = record {
  top = record (new_shape (codes "pgmtool")) {
    is_leaf = false;
    disable_help_flag = true;
    disable_help_subcommand = true;
    disable_version_flag = true;
    subcommand_required = true;
  };
  subs = commands;
}
