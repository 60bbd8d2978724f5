use Rattle.std.proofs.Common.{◌≡◌, ◌∙◌, ◌*◌, ◌<◌, ℕ, List, Vec, Global, Ok, Err, ap, sym, subst, arith}
use Rattle.zorder.specs.declared.regions.Region.{Region}
use Rattle.zorder.specs.Codes.{IsDimension}
use Rattle.pgm_script.specs.declared.script.ScriptKind.{ScriptKind}
use Rattle.pgm_script.specs.declared.script.ScriptLine.{ScriptLine}
use Rattle.command_line.specs.Requests.{Searching, searched_of}
use Rattle.command_line.specs.Requests.Request.{box as search}
use Rattle.commands.specs.Tasks.{task_of}
use Rattle.commands.specs.Tasks as tasks
use Rattle.commands.specs.Tasks.Task.{box, near as neighbours}
use Rattle.commands.proofs.SearchLemmas.{count_is}
use Rattle.program.specs.Files.{Files}
use Rattle.program.specs.Stops.{Answers}
use Rattle.program.specs.Inputs.{reads, reads_points, reads_script, regions_in, gives}
use Rattle.program.proofs.InputLemmas.{second_stops, handed_on}
use Rattle.program.proofs.tasks.box_task.Goals as goal

-- the task of points and regions that were read
searched : (files : Files) (searching : Searching) (coords : List ℕ) (lines : List ScriptLine) (regions : List Region) →
    reads_points searching.dims files searching.file (Ok coords) →
    reads_script (ScriptKind.Region searching.dims) files searching.script (Ok lines) →
    regions ≡ regions_in lines → reads files (search searching) (Ok (box searching.dims coords regions))
searched files searching coords lines regions points script is =
    (coords, points, (lines, script, ap (λ (r : List Region). Ok (box searching.dims coords r)) is))

-- what is read of a point file are points
pub invariant_of-points : goal.invariant_of-points
invariant_of-points g c =
    let d = c.args.searching.dims in
    let points = c.in_ok-coords.ensures.answer.ok.0 in
    let dimension : IsDimension d = (c.args.searching.some, c.args.searching.few) in
    let count = count_is d c.in_ok-coords.coords.items dimension points in
    record {
      dimension = dimension;
      whole = points.whole ∙ ap (λ (n : ℕ). d * n) (sym count);
      few_points = subst (λ (n : ℕ). n < 4294967296) (sym count) points.few;
      range = points.range;
    }

pub returns-clause-answer : goal.returns-clause-answer
returns-clause-answer g c =
    let searching = c.args.searching in
    let coords = c.in_ok-coords.coords.items in
    let lines = c.in_ok-lines.lines.items in
    let one = c.in_ok-coords.ensures in
    let two = c.in_ok-lines.ensures in
    let quiet = two.answer.unfaulted ∙ one.answer.unfaulted in
    record {
      ok = (searched _ (searched_of searching) coords lines _ one.answer.ok
          (subst
          (λ (files : Files). reads_script (ScriptKind.Region searching.dims) files searching.script.now (Ok lines))
          one.files two.answer.ok)
          (c.in_ok-regions.ensures.regions ∙ ap regions_in c.deref.ensures.value));
      unfaulted = quiet;
      stopped = tt;
      faulted = λ rose. absurd (omega (arith, rose, quiet));
      never_falls = omega (arith, quiet);
    }

pub returns-in_err-lines-clause-answer : goal.returns-in_err-lines-clause-answer
returns-in_err-lines-clause-answer g c =
    let before = g.F.Shelf.faults c.args.files.now in
    let middle = g.F.Shelf.faults c.coordinates.new.files in
    let after = g.F.Shelf.faults c.script_lines.new.files in
    let files = g.F.Shelf.files c.args.files.now in
    let searching = searched_of c.args.searching in
    let stopped = c.in_err-lines.field-0.0 in
    let one = c.in_ok-coords.ensures in
    let two = subst (λ (f : Files).
    Answers {B = Vec ScriptLine Global} (reads_script (ScriptKind.Region searching.dims) f searching.script)
    (λ lines. lines.items) middle after (Err stopped))
    one.files c.in_err-lines.ensures.answer in
    (subst (Answers (reads files (search searching)) task_of before after)
    (sym (handed_on _ stopped c.from_residual-in_err-lines.ensures.1))
    (second_stops (reads_points searching.dims files searching.file)
    (λ coords. reads_script (ScriptKind.Region searching.dims) files searching.script)
    (λ coords lines. gives (tasks.Task.box searching.dims coords (regions_in lines)))
    (λ (coords : Vec ℕ Global). coords.items)
    (λ (lines : Vec ScriptLine Global). lines.items)
    task_of before middle after c.in_ok-coords.coords stopped one.answer two))
