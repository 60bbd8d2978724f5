-- The key in the middle says which half of a lane's places stays.
use Rattle.std.proofs.Common.{◌*◌, ◌^◌, ℕ, ◌∙◌, slice_index, arith}
use Rattle.std.proofs.lemmas.List.{length-set}
use Rattle.key_search.specs.Interleaved.{HasBound}
use Rattle.key_search.proofs.LaneLemmas.{lane_done, lane_rest}
use Rattle.key_search.proofs.interleaved.halve_bounds_evenly.Goals as goal

pub loop-lane-preserved : goal.loop-lane-preserved
loop-lane-preserved c =
    let inv = c.loop-lane.invariant in
    let list = c.args.sorted.keys.now in
    let lane = c.loop-lane.lane in
    let bases = c.loop-lane.bases in
    let half = 2 ^ c.args.shift in
    record {
      lanes = length-set bases lane c.halved_evenly.result ∙ inv.lanes;
      done =
          lane_done (λ (k b : ℕ). HasBound list (slice_index c.args.qs.now k) b half) bases lane c.halved_evenly.result
          (omega (arith, inv.lanes, c.loop-lane-test.true)) inv.done c.halved_evenly.ensures;
      rest = lane_rest (λ (k b : ℕ). HasBound list (slice_index c.args.qs.now k) b (2 * half))
          bases lane c.halved_evenly.result inv.rest;
    }
