-- The stretch and what is behind it are all codes inside from the place on.
use Rattle.std.proofs.Common.{length, slice_index, arith}
use Rattle.boxes.proofs.Fronts.{stretch_and_rest}
use Rattle.boxes.proofs.places.next_places.Goals as goal

pub returns-then-is_empty-clause-all : goal.returns-then-is_empty-clause-all
returns-then-is_empty-clause-all c = λ sorted here.
    let codes = c.args.codes.now in
    let none = c.if-is_empty.ensures.none_inside in
    stretch_and_rest c.args.corners.now.region codes c.args.from
    (length codes) (length codes) here (omega arith) (omega arith)
    (λ j from before. none (slice_index codes j)) (λ j from before. absurd (omega (arith, from, before)))

pub returns-clause-all : goal.returns-clause-all
returns-clause-all c = λ sorted here.
    let first = c.first_inside-first in
    let end = c.stretch_end in
    stretch_and_rest c.args.corners.now.region c.args.codes.now c.args.from first.result end.result
    (first.ensures.onwards here)
    end.ensures.onwards end.ensures.within (first.ensures.skipped sorted) (end.ensures.inside sorted)
