use Rattle.std.proofs.Common.{◌≤◌, ℕ, List, take, length}
use Rattle.std.specs.Prelude.{All}
use Rattle.boxes.specs.BoxAnswers.{codes_inside}
use Rattle.commands.specs.Texts.Regions.{TellsRegion}
use Rattle.commands.proofs.regions.greatest_answer.Given as goal

-- of the regions before this place none has more codes inside, and each has an answer
abbrev pub invariant-loop-i : goal.invariant-loop-i
invariant-loop-i l =
    All (λ region. length (codes_inside region l.boxes.codes) ≤ l.most) (take l.i l.regions)
    × All (λ region. (pieces : List (List ℕ)) × TellsRegion l.boxes.codes region pieces) (take l.i l.regions)
