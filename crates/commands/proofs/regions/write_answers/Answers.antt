use Rattle.std.proofs.Common.{◌+◌, ◌≤◌, drop, length, List, ℕ, arith}
use Rattle.std.specs.Prelude.{vec_capacity}
use Rattle.std.proofs.lemmas.List.Elements.{All-drop, All-get_or}
use Rattle.zorder.specs.declared.regions.Region.{Region}
use Rattle.boxes.specs.BoxAnswers.{codes_inside}
use Rattle.commands.specs.Texts.Regions.{TellsRegion}
use Rattle.commands.proofs.SearchLemmas.{no_region}
use Rattle.written.proofs.InTurnLemmas.{some_each}
use Rattle.written.proofs.LoopLemmas.{told_none, told_more, told_all, told_broken}
use Rattle.written.proofs.WritingLemmas.{broken}
use Rattle.commands.proofs.regions.write_answers.Goals as goal

pub loop-i-init : goal.loop-i-init
loop-i-init g c =
    (told_none (TellsRegion c.args.boxes.now.codes) c.args.regions.now, omega arith)

pub loop-i-preserved : goal.loop-i-preserved
loop-i-preserved g c = (
  told_more (TellsRegion c.args.boxes.now.codes) c.args.regions.now c.loop-i.i no_region c.loop-i.invariant.0
      c.in_ok-write_answer.ensures.told (omega arith),
  omega (arith, c.loop-i.invariant.1, c.in_ok-write_answer.ensures.capacity),
)

pub returns-in_err-write_answer : goal.returns-in_err-write_answer
returns-in_err-write_answer g c =
    let Tells = TellsRegion c.args.boxes.now.codes in
    let (pieces, told, broke) = told_broken Tells c.args.regions.now c.loop-i.i no_region c.loop-i.invariant.0
    c.in_err-write_answer.ensures.told
    (some_each Tells (drop (c.loop-i.i + 1) c.args.regions.now) (All-drop
    (λ (region : Region). (pieces : List (List ℕ)) × Tells region pieces)
    (c.loop-i.i + 1) c.args.regions.now c.requires.answered))
    (omega arith) in
    (pieces, told, broken _ c.from_residual.result c.from_residual.ensures.1 broke)

pub returns : goal.returns
returns g c =
    told_all (TellsRegion c.args.boxes.now.codes) c.args.regions.now c.loop-i.i c.loop-i.invariant.0 (omega arith)

-- there is room for the answer of each region
pub write_answer-requires-clause-room : goal.write_answer-requires-clause-room
write_answer-requires-clause-room g c =
    omega (
      arith,
      All-get_or
          (λ (region : Region). length (codes_inside region c.args.boxes.now.codes) ≤ vec_capacity c.args.found.now)
          c.args.regions.now c.loop-i.i
          no_region (omega arith) c.requires.room,
      c.loop-i.invariant.1,
    )
