-- The codes inside a box are among all codes: no more than those.
use Rattle.std.proofs.Common.{length, ap, arith}
use Rattle.std.proofs.lemmas.List.Sums.{length-filter, count_by-le-length}
use Rattle.boxes.specs.BoxAnswers.{is_inside}
use Rattle.bench.proofs.regions.fill_one.Goals as goal

pub fill-requires-clause-room : goal.fill-requires-clause-room
fill-requires-clause-room c =
    let test = is_inside c.args.region.now in
    let sorted = c.args.boxes.now.codes in
    omega (
      arith,
      length-filter test sorted,
      count_by-le-length test sorted,
      ap length c.codes-codes.ensures.codes,
      c.capacity.ensures,
      c.if-capacity-codes.false,
    )
