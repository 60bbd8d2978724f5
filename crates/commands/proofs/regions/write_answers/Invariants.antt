use Rattle.std.proofs.Common.{◌≤◌, take}
use Rattle.std.specs.Prelude.{vec_capacity}
use Rattle.written.proofs.LoopLemmas.{HasTold}
use Rattle.commands.specs.Texts.Regions.{TellsRegion}
use Rattle.commands.proofs.regions.write_answers.Given as goal

-- the answers of the regions before this place were written, and the room is there
abbrev pub invariant-loop-i : goal.invariant-loop-i
invariant-loop-i g l =
    HasTold g.S.Sink (TellsRegion l.boxes.codes) l.fn.out l.out (take l.i l.regions)
    × (vec_capacity l.fn.found ≤ vec_capacity l.found)
