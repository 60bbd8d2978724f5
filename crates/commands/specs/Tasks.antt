-- What there is to do when all inputs are read.
use Rattle.std.specs.Prelude.{ℕ, Bool, List}
use Rattle.zorder.specs.declared.regions.Region.{Region}
use Rattle.log_levels.specs.declared.update.Update.{Update}
use Rattle.map_replay.specs.declared.question.Question.{Question}
use Rattle.options.specs.declared.index.Bounds as declared_bounds
use Rattle.commands.specs.declared.task.Centre.{Centre}
use Rattle.map_commands.specs.declared.history.History as declared_history
use Rattle.map_commands.specs.declared.history.Mixing as declared_mixing
use Rattle.commands.specs.declared.task.Task as declared
use Rattle.commands.specs.declared.task.Task.TheVariants as variant

-- the error bounds of an index: that of level 0, and that of the levels above
pub record Bounds : Type 0 where
  pub eps : ℕ
  pub eps_rec : ℕ

-- each command, with its inputs and its options; `bits` is how many bits of a key the table of a query goes
-- by, 0 where none is asked for; the hints that a find is led by aren't told, since no answer depends on them
pub data Task : Type 0 where
  build : (keys : List ℕ) (bounds : Bounds) → Task
  explain : (keys : List ℕ) (bounds : Bounds) → Task
  query : (keys : List ℕ) (bounds : Bounds) (questions : List ℕ) (windows : Bool) (bits : ℕ) → Task
  relax : (keys : List ℕ) (bounds : Bounds) (pieces : ℕ) (questions : List ℕ) → Task
  box : (d : ℕ) (coords : List ℕ) (regions : List Region) → Task
  near : (d : ℕ) (coords : List ℕ) (centres : List Centre) → Task
  replay : (updates : List Update) (questions : List Question) (batch readers : ℕ) → Task
  mix : (updates : List Update) (questions : List Question) (readers senders : ℕ) → Task
  hints : (keys : List ℕ) (eps : ℕ) → Task
  find : (keys questions : List ℕ) → Task
  drill : (n seed : ℕ) (bounds : Bounds) → Task
  save : (keys : List ℕ) (bounds : Bounds) → Task
  check : (levels runs : ℕ) → Task

-- the task that the program's own type stands for
abbrev pub bounds_of : declared_bounds.Bounds → Bounds
bounds_of b = record { eps = b.eps; eps_rec = b.eps_rec }

abbrev pub replay_of : declared_history.History → Task
replay_of h = replay h.updates.items h.questions.items h.plan.batch h.plan.readers

abbrev pub mix_of : declared_mixing.Mixing → Task
mix_of m = mix m.history.updates.items m.history.questions.items m.history.plan.readers m.senders.count

abbrev pub task_of : declared.Task → Task
task_of (variant.Build indexing) = build indexing.sorted.keys.items (bounds_of indexing.bounds)
task_of (variant.Explain indexing) = explain indexing.sorted.keys.items (bounds_of indexing.bounds)
task_of (variant.Query a) =
    query a.indexing.sorted.keys.items (bounds_of a.indexing.bounds) a.questions.items a.windows a.table.bits
task_of (variant.Relax r) =
    relax r.indexing.sorted.keys.items (bounds_of r.indexing.bounds) r.pieces.count r.questions.items
task_of (variant.Box search) = box search.points.dims search.points.coords.items search.regions.items
task_of (variant.Near neighbours) = near neighbours.points.dims neighbours.points.coords.items neighbours.centres.items
task_of (variant.Replay history) = replay_of history
task_of (variant.Mix mixing) = mix_of mixing
task_of (variant.Hints fitting) = hints fitting.sorted.keys.items fitting.eps
task_of (variant.Find lookups) = find lookups.sorted.keys.items lookups.questions.items
task_of (variant.Drill d bounds workers) = drill d.number d.seed (bounds_of bounds)
task_of (variant.Save indexing) = save indexing.sorted.keys.items (bounds_of indexing.bounds)
task_of (variant.Check levels runs) = check levels runs
