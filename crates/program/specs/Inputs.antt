-- What the files define for a request: its task, or the refusal that the first bad input gives.
use Rattle.std.specs.Prelude.{◌≡◌, ◌⊎◌, ℕ, ◌<◌, ◌≤◌, Bool, not, List, length}
use Rattle.std.specs.Prelude.{filter_map, All, Option, Result, Ok, Err, None, Some, ⊤}
use Rattle.sosd_reader.specs.declared.fault.KeyFault.{KeyFault}
use Rattle.sosd_reader.specs.FileFaults.{ReadsAsFile}
use Rattle.sosd_reader.specs.KeyFiles.{key_width}
use Rattle.sosd_reader.specs.NumberFiles.{Kind}
use Rattle.sosd_reader.specs.NumberFiles.Kind.{of_keys, of_points}
use Rattle.zorder.specs.declared.regions.Region.{Region}
use Rattle.pgm_script.specs.declared.fault.ScriptFault.TheVariants as script
use Rattle.pgm_script.specs.declared.script.ScriptKind.{ScriptKind}
use Rattle.pgm_script.specs.declared.script.ScriptLine.{ScriptLine}
use Rattle.pgm_script.specs.Scripts.{IsLineOf, ReadsAs as ReadsScript}
use Rattle.log_levels.specs.declared.update.Update.{Update}
use Rattle.log_levels.specs.Accepted.{entries_of}
use Rattle.log_levels.specs.Shapes.{capacity_with}
use Rattle.command_line.specs.Requests.{Building, Drilling, Replaying, Request}
use Rattle.command_line.specs.Requests.Request.{build, explain, query, relax, box}
use Rattle.command_line.specs.Requests.Request.{near, replay, drill, save, check, mix}
use Rattle.program.specs.declared.refusal.Refusal.{Refusal}
use Rattle.program.specs.declared.refusal.Refusal.TheVariants.{ReadFault, TooLong, Script, Full, IndexWrong}
use Rattle.program.specs.declared.inputs.TheConstants.{SCRIPT_LIMIT}
use Rattle.program.specs.Files.{Files, HoldsOfFile, IsFaultOf, IsMissing, IsReadable}
use Rattle.program.specs.Refusals.{refusal_of, refusal_of_index}
use Rattle.program.specs.RightIndexes.{IsRightIndex, IsWrongIndex}
use Rattle.index_file.specs.declared.fault.IndexFault.{IndexFault}
use Rattle.index_file.specs.Spelling.{SavedIndex, IsSpelling, run_count}
use Rattle.index_file.specs.Faults.{FailsAs}
use Rattle.map_replay.specs.declared.question.Question.{Question}
use Rattle.commands.specs.declared.task.Centre.{Centre}
use Rattle.commands.specs.Tasks.{Bounds}
use Rattle.commands.specs.Tasks as tasks

-- what files define: a value, or a refusal
abbrev pub Reading : Type 0 → Type 1
Reading A = Result A Refusal → Type 0

-- the numbers of the file of this name, or why it has none: it isn't there, or its bytes have a fault
abbrev pub reads_numbers : Kind → Files → List ℕ → Reading (List ℕ)
reads_numbers asked files name (Ok numbers) =
    IsReadable asked numbers × HoldsOfFile files name (λ bytes. ReadsAsFile asked bytes (Ok numbers))
reads_numbers asked files name (Err ReadFault) = IsMissing files name
reads_numbers asked files name (Err refusal) =
    (fault : KeyFault) × (refusal_of fault ≡ Some refusal) × IsFaultOf asked fault
    × HoldsOfFile files name (λ bytes. ReadsAsFile asked bytes (Err fault))

-- the keys of a key file, and the coordinates of a point file
abbrev pub reads_keys : Bool → Files → List ℕ → Reading (List ℕ)
reads_keys wide = reads_numbers (of_keys (key_width wide))

abbrev pub reads_points : ℕ → Files → List ℕ → Reading (List ℕ)
reads_points d = reads_numbers (of_points d)

-- the script of the file of this name, or why it has none: it isn't
-- there, it is too long, or a line has something wrong with it
abbrev pub reads_script : ScriptKind → Files → List ℕ → Reading (List ScriptLine)
reads_script asked files name (Ok lines) = All (IsLineOf asked) lines
    × HoldsOfFile files name (λ bytes. (length bytes ≤ SCRIPT_LIMIT) × ReadsScript asked bytes (Ok lines))
reads_script asked files name (Err ReadFault) = IsMissing files name
reads_script asked files name (Err TooLong) = HoldsOfFile files name (λ bytes. SCRIPT_LIMIT < length bytes)
reads_script asked files name (Err (Script line why)) =
    HoldsOfFile files name (λ bytes. (length bytes ≤ SCRIPT_LIMIT) × ReadsScript asked bytes (Err (script.At line why)))
reads_script asked files name (Err refusal) = ⊥

-- a file of hints, of which nothing is told, since no answer depends on what it holds: it is there, or it isn't
abbrev pub reads_hints : Files → List ℕ → Reading ⊤
reads_hints files name (Ok _) = HoldsOfFile files name (λ bytes. ⊤)
reads_hints files name (Err ReadFault) = IsMissing files name
reads_hints files name (Err refusal) = ⊥

-- nothing is told of hints
abbrev pub no_hints : {A : Type 0} → A → ⊤
no_hints hints = tt

-- the questions of a script, in order
abbrev pub question_in : ScriptLine → Option ℕ
question_in (ScriptLine.Find question) = Some question
question_in line = None

abbrev pub questions_in : List ScriptLine → List ℕ
questions_in lines = filter_map question_in lines

-- the regions of a script, in order
abbrev pub region_in : ScriptLine → Option Region
region_in (ScriptLine.Region region) = Some region
region_in line = None

abbrev pub regions_in : List ScriptLine → List Region
regions_in lines = filter_map region_in lines

-- the centres of a script, in order
abbrev pub centre_in : ScriptLine → Option Centre
centre_in (ScriptLine.Near place count) = Some (record { place = place; count = count })
centre_in line = None

abbrev pub centres_in : List ScriptLine → List Centre
centres_in lines = filter_map centre_in lines

-- the updates of a script, in order
abbrev pub update_in : ScriptLine → Option Update
update_in (ScriptLine.Put key value) = Some (Update.Put key value)
update_in (ScriptLine.Del key) = Some (Update.Del key)
update_in (ScriptLine.Sweep low high) = Some (Update.Sweep low high)
update_in line = None

abbrev pub updates_in : List ScriptLine → List Update
updates_in lines = filter_map update_in lines

-- the questions to a map of a script, in order
abbrev pub map_question_in : ScriptLine → Option Question
map_question_in (ScriptLine.Get key) = Some (Question.Get key)
map_question_in (ScriptLine.Next from) = Some (Question.Next from)
map_question_in (ScriptLine.Count low high) = Some (Question.Count low high)
map_question_in line = None

abbrev pub map_questions_in : List ScriptLine → List Question
map_questions_in lines = filter_map map_question_in lines

-- a task, where there is room for so many
abbrev pub reads_within : (count room : ℕ) → tasks.Task → Reading tasks.Task
reads_within count room task (Ok read) = (count ≤ room) × (read ≡ task)
reads_within count room task (Err (Full asked left)) = (asked ≡ count) × (left ≡ room) × (left < asked)
reads_within count room task (Err refusal) = ⊥

-- what a script asks for, where a map of so many levels has room for the entries of all its updates
abbrev pub reads_history : Replaying → List ScriptLine → Reading tasks.Task
reads_history replaying lines = reads_within (length (entries_of (updates_in lines))) (capacity_with replaying.levels)
    (tasks.Task.replay (updates_in lines) (map_questions_in lines) replaying.batch replaying.readers)

-- the same where senders send the updates, of which none is a sweep, and the map has room for all of them
abbrev pub reads_mixing : Replaying → (senders : ℕ) → List ScriptLine → Reading tasks.Task
reads_mixing replaying senders lines = reads_within (length (updates_in lines)) (capacity_with replaying.levels)
    (tasks.Task.mix (updates_in lines) (map_questions_in lines) replaying.readers senders)

-- the saved index of the file of this name, or why it has none: it isn't there, or its bytes have a fault
abbrev pub reads_saved : Files → List ℕ → Reading SavedIndex
reads_saved files name (Ok saved) = HoldsOfFile files name (IsSpelling saved)
reads_saved files name (Err ReadFault) = IsMissing files name
reads_saved files name (Err refusal) = (fault : IndexFault)
    × (refusal_of_index fault ≡ Some refusal) × HoldsOfFile files name (λ bytes. FailsAs bytes fault)

-- what is told of a saved index that is the one index of the keys, or the lowest level that isn't that index's
abbrev pub judges : List ℕ → SavedIndex → Reading tasks.Task
judges keys saved (Ok task) =
    IsRightIndex keys saved × (task ≡ tasks.Task.check (length saved.levels) (run_count saved))
judges keys saved (Err (IndexWrong level)) = IsWrongIndex keys saved level
judges keys saved (Err refusal) = ⊥

-- one input, and then what goes on with it: the first refusal is that of both
abbrev pub then : {A B : Type 0} → Reading A → (A → Reading B) → Reading B
then first next (Ok y) = (x : _) × first (Ok x) × next x (Ok y)
then first next (Err refusal) = first (Err refusal) ⊎ ((x : _) × first (Ok x) × next x (Err refusal))

-- nothing more is read
abbrev pub gives : {A : Type 0} → A → Reading A
gives x reading = reading ≡ Ok x

-- the keys of an index
abbrev pub reads_index : Files → Building → Reading (List ℕ)
reads_index files building = reads_keys (not building.narrow) files building.file

abbrev pub bounds_in : Building → Bounds
bounds_in building = record { eps = building.eps; eps_rec = building.eps_rec }

-- the drill of a number and a seed
abbrev pub drill_of : Drilling → tasks.Task
drill_of drilling =
    tasks.Task.drill drilling.number drilling.seed (record { eps = drilling.eps; eps_rec = drilling.eps_rec })

-- the inputs of each request, in turn
abbrev pub reads : Files → Request → Reading tasks.Task
reads files (build building) =
    then (reads_index files building) (λ keys. gives (tasks.Task.build keys (bounds_in building)))
reads files (explain building) =
    then (reads_index files building) (λ keys. gives (tasks.Task.explain keys (bounds_in building)))
reads files (query building name windows bits) = then (reads_index files building) (λ keys.
    then (reads_script ScriptKind.Find files name) (λ lines.
    gives (tasks.Task.query keys (bounds_in building) (questions_in lines) windows bits)))
reads files (relax building name pieces) = then (reads_index files building) (λ keys.
    then (reads_script ScriptKind.Find files name) (λ lines.
    gives (tasks.Task.relax keys (bounds_in building) pieces (questions_in lines))))
reads files (box searching) = then (reads_points searching.dims files searching.file) (λ coords.
    then (reads_script (ScriptKind.Region searching.dims) files searching.script) (λ lines.
    gives (tasks.Task.box searching.dims coords (regions_in lines))))
reads files (near searching) = then (reads_points searching.dims files searching.file) (λ coords.
    then (reads_script (ScriptKind.Near searching.dims) files searching.script) (λ lines.
    gives (tasks.Task.near searching.dims coords (centres_in lines))))
reads files (replay replaying) = then (reads_script ScriptKind.Replay files replaying.script) (reads_history replaying)
reads files (mix replaying senders) =
    then (reads_script ScriptKind.Mix files replaying.script) (reads_mixing replaying senders)
reads files (Request.hints hinting) =
    then (reads_keys (not hinting.narrow) files hinting.file) (λ keys. gives (tasks.Task.hints keys hinting.eps))
reads files (Request.find finding) = then (reads_keys (not finding.narrow) files finding.file) (λ keys.
    then (reads_hints files finding.hints) (λ _.
    then (reads_script ScriptKind.Find files finding.script) (λ lines.
    gives (tasks.Task.find keys (questions_in lines)))))
reads files (drill drilling) = gives (drill_of drilling)
reads files (save building) =
    then (reads_index files building) (λ keys. gives (tasks.Task.save keys (bounds_in building)))
reads files (check checking) = then (reads_keys (not checking.narrow) files checking.file) (λ keys.
    then (reads_saved files checking.index) (λ saved. judges keys saved))
