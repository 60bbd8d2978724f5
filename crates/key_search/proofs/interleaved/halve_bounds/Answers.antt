-- The key in the middle says which half of a lane's places stays.
use Rattle.std.proofs.Common.{◌-◌, ℕ, ◌∙◌, slice_index, arith}
use Rattle.std.proofs.lemmas.List.{length-set}
use Rattle.key_search.specs.Interleaved.{HasBound}
use Rattle.key_search.proofs.LaneLemmas.{lane_done, lane_rest, HasBound-upper, HasBound-lower}
use Rattle.key_search.proofs.interleaved.halve_bounds.Goals as goal
use Rattle.key_search.proofs.interleaved.halve_bounds.Goals.{then-sorted-middle, else-sorted-middle}

pub loop-lane-preserved : goal.loop-lane-preserved
loop-lane-preserved c =
    let inv = c.loop-lane.invariant in
    let list = c.args.sorted.keys.now in
    let lane = c.loop-lane.lane in
    let bases = c.loop-lane.bases in
    let q = slice_index c.args.qs.now lane in
    let base = slice_index bases lane in
    let here : HasBound list q base c.args.count = inv.rest lane (omega arith) c.loop-lane-test.true in
    let value : HasBound list q c.if-sorted-middle.bases (c.args.count - c.args.half) = elim c.if-sorted-middle.branch [
      | then-sorted-middle w ↦ rw w.bases-is
          (HasBound-upper list q base c.args.count
          c.args.half c.args.sorted.never_falls c.requires.some c.requires.half here w.if-sorted-middle.true)
      | else-sorted-middle w ↦ rw w.bases-is
          (HasBound-lower list q base c.args.count
          c.args.half c.args.sorted.never_falls c.requires.some c.requires.most here w.if-sorted-middle.false)
    ] in
    record {
      lanes = length-set bases lane c.if-sorted-middle.bases ∙ inv.lanes;
      done = lane_done (λ (k b : ℕ). HasBound list (slice_index c.args.qs.now k) b (c.args.count - c.args.half))
          bases lane c.if-sorted-middle.bases
          (omega (arith, inv.lanes, c.loop-lane-test.true)) inv.done value;
      rest = lane_rest (λ (k b : ℕ). HasBound list (slice_index c.args.qs.now k) b c.args.count)
          bases lane c.if-sorted-middle.bases inv.rest;
    }
