-- What a command line asks for, by what `clap` found for its arguments.
use Rattle.std.specs.Prelude.{ℕ, Bool, false, List, Option, Some, None, codes, bytes_eq, unwrap_or}
use Rattle.std.specs.Option.{option_map_or}
use Rattle.std.specs.Str.Parse.{digits_value, without_leading_plus}
use Rattle.clap.specs.declared.parser.matches.ArgMatches.{ArgMatches}
use Rattle.clap.specs.Words.{Text, Row, first_of, found_of, one_of, rows_of}
use Rattle.options.specs.declared.index.TheConstants.{EPS, EPS_REC}
use Rattle.command_line.specs.declared.request.Building as declared_building
use Rattle.command_line.specs.declared.request.Searching as declared_searching
use Rattle.command_line.specs.declared.request.Replaying as declared_replaying
use Rattle.command_line.specs.declared.request.Drilling as declared_drilling
use Rattle.command_line.specs.declared.request.Checking as declared_checking
use Rattle.command_line.specs.declared.request.Hinting as declared_hinting
use Rattle.command_line.specs.declared.request.Finding as declared_finding
use Rattle.command_line.specs.declared.request.Request as declared
use Rattle.command_line.specs.declared.request.Request.TheVariants as variant

-- what `clap` found, argument by argument
abbrev pub rows_in : ArgMatches → List Row
rows_in found = rows_of (found_of found)

-- a key file, and how its index is built; the number of workers isn't told, since no answer depends on it
pub record Building : Type 0 where
  pub file : Text
  pub narrow : Bool
  pub eps : ℕ
  pub eps_rec : ℕ

-- a file of points with `dims` coordinates each, and a script of what is asked of them
pub record Searching : Type 0 where
  pub file : Text
  pub script : Text
  pub dims : ℕ

-- a script of updates and questions, how many levels the map has, how many updates a batch,
-- and how many readers there are; workers aren't told, since no answer depends on them
pub record Replaying : Type 0 where
  pub script : Text
  pub levels : ℕ
  pub batch : ℕ
  pub readers : ℕ

-- how many inputs are drawn of each kind, the seed, and how an index of the keys is built
pub record Drilling : Type 0 where
  pub number : ℕ
  pub seed : ℕ
  pub eps : ℕ
  pub eps_rec : ℕ

-- a key file, and a saved index that is checked over its keys
pub record Checking : Type 0 where
  pub file : Text
  pub index : Text
  pub narrow : Bool

-- a key file, and the error bound of the hints that are made of its keys
pub record Hinting : Type 0 where
  pub file : Text
  pub narrow : Bool
  pub eps : ℕ

-- a key file, a file of hints, and a script of questions
pub record Finding : Type 0 where
  pub file : Text
  pub hints : Text
  pub script : Text
  pub narrow : Bool

-- each command, with the names of its files and its options; `bits` is how many bits of
-- a key the table goes by that finds a query's positions, and 0 where none is asked for
pub data Request : Type 0 where
  build : (building : Building) → Request
  explain : (building : Building) → Request
  query : (building : Building) (script : Text) (windows : Bool) (bits : ℕ) → Request
  relax : (building : Building) (script : Text) (pieces : ℕ) → Request
  box : (searching : Searching) → Request
  near : (searching : Searching) → Request
  replay : (replaying : Replaying) → Request
  mix : (replaying : Replaying) (senders : ℕ) → Request
  hints : (hinting : Hinting) → Request
  find : (finding : Finding) → Request
  drill : (drilling : Drilling) → Request
  save : (building : Building) → Request
  check : (checking : Checking) → Request

-- the number that an option has, or else its default; the name; and whether a flag is given
abbrev pub number_in : Text → ℕ → List Row → ℕ
number_in id default rows = option_map_or (λ text. digits_value 10 (without_leading_plus text)) (one_of id rows) default

abbrev pub name_in : Text → List Row → Text
name_in id rows = unwrap_or (first_of id rows) (codes "")

abbrev pub is_given : Text → List Row → Bool
is_given id rows = option_map_or (λ text. bytes_eq text (codes "true")) (one_of id rows) false

abbrev pub building_of : List Row → Building
building_of rows = record {
  file = name_in (codes "FILE") rows;
  narrow = is_given (codes "narrow") rows;
  eps = number_in (codes "eps") EPS rows;
  eps_rec = number_in (codes "rec") EPS_REC rows;
}

abbrev pub query_of : List Row → Request
query_of rows = query (building_of rows)
    (name_in (codes "SCRIPT") rows) (is_given (codes "windows") rows) (number_in (codes "buckets") 0 rows)

abbrev pub relax_of : List Row → Request
relax_of rows = relax (building_of rows) (name_in (codes "SCRIPT") rows) (number_in (codes "pieces") 4 rows)

abbrev pub searching_of : List Row → Searching
searching_of rows = record {
  file = name_in (codes "FILE") rows;
  script = name_in (codes "SCRIPT") rows;
  dims = number_in (codes "dims") 2 rows;
}

abbrev pub replaying_of : List Row → Replaying
replaying_of rows = record {
  script = name_in (codes "SCRIPT") rows;
  levels = number_in (codes "levels") 20 rows;
  batch = number_in (codes "batch") 16 rows;
  readers = number_in (codes "readers") 0 rows;
}

abbrev pub mix_of : List Row → Request
mix_of rows = mix (replaying_of rows) (number_in (codes "senders") 2 rows)

abbrev pub hinting_of : List Row → Hinting
hinting_of rows = record {
  file = name_in (codes "FILE") rows;
  narrow = is_given (codes "narrow") rows;
  eps = number_in (codes "eps") 32 rows;
}

abbrev pub finding_of : List Row → Finding
finding_of rows = record {
  file = name_in (codes "FILE") rows;
  hints = name_in (codes "HINTS") rows;
  script = name_in (codes "SCRIPT") rows;
  narrow = is_given (codes "narrow") rows;
}

abbrev pub drilling_of : List Row → Drilling
drilling_of rows = record {
  number = number_in (codes "N") 1 rows;
  seed = number_in (codes "SEED") 0 rows;
  eps = number_in (codes "eps") EPS rows;
  eps_rec = number_in (codes "rec") EPS_REC rows;
}

abbrev pub checking_of : List Row → Checking
checking_of rows = record {
  file = name_in (codes "FILE") rows;
  index = name_in (codes "INDEX") rows;
  narrow = is_given (codes "narrow") rows;
}

-- the request that the program's own type stands for
abbrev pub built_of : declared_building.Building → Building
built_of b = record { file = b.file.now; narrow = b.narrow; eps = b.bounds.eps; eps_rec = b.bounds.eps_rec }

abbrev pub searched_of : declared_searching.Searching → Searching
searched_of s = record { file = s.file.now; script = s.script.now; dims = s.dims }

abbrev pub replayed_of : declared_replaying.Replaying → Replaying
replayed_of r = record { script = r.script.now; levels = r.plan.levels; batch = r.plan.batch; readers = r.plan.readers }

abbrev pub hinted_of : declared_hinting.Hinting → Hinting
hinted_of h = record { file = h.file.now; narrow = h.narrow; eps = h.eps }

abbrev pub found_by : declared_finding.Finding → Finding
found_by f = record { file = f.file.now; hints = f.hints.now; script = f.script.now; narrow = f.narrow }

abbrev pub drilled_of : declared_drilling.Drilling → Drilling
drilled_of d = record { number = d.drill.number; seed = d.drill.seed; eps = d.bounds.eps; eps_rec = d.bounds.eps_rec }

abbrev pub checked_of : declared_checking.Checking → Checking
checked_of c = record { file = c.file.now; index = c.index.now; narrow = c.narrow }

abbrev pub asked_of : declared.Request → Request
asked_of (variant.Build building) = build (built_of building)
asked_of (variant.Explain building) = explain (built_of building)
asked_of (variant.Query building script windows table) = query (built_of building) script.now windows table.bits
asked_of (variant.Relax building script pieces) = relax (built_of building) script.now pieces.count
asked_of (variant.Box searching) = box (searched_of searching)
asked_of (variant.Near searching) = near (searched_of searching)
asked_of (variant.Replay replaying) = replay (replayed_of replaying)
asked_of (variant.Mix replaying senders) = mix (replayed_of replaying) senders.count
asked_of (variant.Hints hinting) = hints (hinted_of hinting)
asked_of (variant.Find finding) = find (found_by finding)
asked_of (variant.Drill drilling) = drill (drilled_of drilling)
asked_of (variant.Save building) = save (built_of building)
asked_of (variant.Check checking) = check (checked_of checking)

-- the file that is read first, if one is read
abbrev pub first_file : Request → Option Text
first_file (build building) = Some building.file
first_file (explain building) = Some building.file
first_file (query building script windows bits) = Some building.file
first_file (relax building script pieces) = Some building.file
first_file (box searching) = Some searching.file
first_file (near searching) = Some searching.file
first_file (replay replaying) = Some replaying.script
first_file (mix replaying senders) = Some replaying.script
first_file (hints hinting) = Some hinting.file
first_file (find finding) = Some finding.file
first_file (drill drilling) = None
first_file (save building) = Some building.file
first_file (check checking) = Some checking.file
