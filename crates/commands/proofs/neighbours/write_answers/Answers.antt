use Rattle.std.proofs.Common.{◌+◌, ◌≤◌, drop, length, min, List, ℕ, arith}
use Rattle.std.specs.Prelude.{vec_capacity}
use Rattle.std.proofs.lemmas.List.Elements.{All-drop, All-get_or}
use Rattle.commands.specs.declared.task.Centre.{Centre}
use Rattle.commands.specs.Texts.Neighbours.{TellsNear}
use Rattle.commands.proofs.SearchLemmas.{no_centre}
use Rattle.written.proofs.InTurnLemmas.{some_each}
use Rattle.written.proofs.LoopLemmas.{told_none, told_more, told_all, told_broken}
use Rattle.written.proofs.WritingLemmas.{broken}
use Rattle.commands.proofs.neighbours.write_answers.Goals as goal

pub loop-i-init : goal.loop-i-init
loop-i-init g c =
    (told_none (TellsNear c.args.boxes.now.dims c.args.boxes.now.codes) c.args.centres.now, omega arith)

pub loop-i-preserved : goal.loop-i-preserved
loop-i-preserved g c = (
  told_more (TellsNear c.args.boxes.now.dims c.args.boxes.now.codes)
      c.args.centres.now c.loop-i.i no_centre c.loop-i.invariant.0
      c.in_ok-write_answer.ensures.told (omega arith),
  omega (arith, c.loop-i.invariant.1, c.in_ok-write_answer.ensures.capacity),
)

pub returns-in_err-write_answer : goal.returns-in_err-write_answer
returns-in_err-write_answer g c =
    let Tells = TellsNear c.args.boxes.now.dims c.args.boxes.now.codes in
    let (pieces, told, broke) = told_broken Tells c.args.centres.now c.loop-i.i no_centre c.loop-i.invariant.0
    c.in_err-write_answer.ensures.told
    (some_each Tells (drop (c.loop-i.i + 1) c.args.centres.now) (All-drop
    (λ (centre : Centre). (pieces : List (List ℕ)) × Tells centre pieces)
    (c.loop-i.i + 1) c.args.centres.now c.requires.answered))
    (omega arith) in
    (pieces, told, broken _ c.from_residual.result c.from_residual.ensures.1 broke)

pub returns : goal.returns
returns g c =
    told_all (TellsNear c.args.boxes.now.dims c.args.boxes.now.codes) c.args.centres.now c.loop-i.i c.loop-i.invariant.0
    (omega arith)

-- there is room for the answer of each centre
pub write_answer-requires-clause-room : goal.write_answer-requires-clause-room
write_answer-requires-clause-room g c =
    let fits = All-get_or
    (λ (centre : Centre). min (length c.args.boxes.now.codes) centre.count ≤ vec_capacity c.args.points.now)
    c.args.centres.now c.loop-i.i
    no_centre (omega arith) c.requires.room in
    omega (arith, fits, c.loop-i.invariant.1)
