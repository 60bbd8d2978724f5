-- The codes of one more cell lie between.
use Rattle.std.proofs.Common.{◌+◌, slice_index, inl, inr, arith}
use Rattle.std.proofs.lemmas.Bool.{cases_lt}
use Rattle.boxes.proofs.cells.over_cells.Goals as goal

pub loop-place-preserved : goal.loop-place-preserved
loop-place-preserved c =
    let codes = c.args.codes.now in
    let place = c.loop-place.place in
    record {
      onwards = omega (arith, c.loop-place.invariant.onwards);
      within = omega (arith, c.loop-place-test.true);
      between = λ sorted j from to. elim (cases_lt j place) [
        | inl earlier ↦ c.loop-place.invariant.between sorted j from earlier
        | inr later ↦
            c.is_cell_within.ensures c.if-is_cell_within.true
            (slice_index codes j) (sorted place j 0 later (omega (arith, c.loop-place-test.true)))
            (sorted j (place + 64) 0 (omega arith) (omega (arith, c.loop-place-test.true)))
      ];
    }
