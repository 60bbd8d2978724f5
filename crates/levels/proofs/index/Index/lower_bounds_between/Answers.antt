-- Among the runs that a lane leaves open is the one of its question, raised to the first key.
use Rattle.std.proofs.Common.{◌≡◌, ◌+◌, ◌<◌, ◌≤◌, ◌∙◌, ℕ, List, slice_index, sym, ap, arith}
use Rattle.std.specs.Prelude.{max}
use Rattle.std.proofs.lemmas.List.{length-set}
use Rattle.window_search.specs.Searches.{lb, IsPredecessor}
use Rattle.levels.specs.Indexes.{xs_at}
use Rattle.levels.proofs.LookupLemmas.{ascends}
use Rattle.levels.proofs.RunLemmas.{first_run, raised_run}
use Rattle.key_search.proofs.CallerLemmas.{lane_done, lb-raised}
use Rattle.levels.proofs.index.Index.lower_bounds_between.Goals as goal

pub loop-lane-2-init : goal.loop-lane-2-init
loop-lane-2-init c =
    let value = c.args.self.now in
    let runs = c.runs-runs.ensures in
    record {
      lanes = omega arith;
      some = omega arith;
      most = omega (
        arith,
        (first_run
            value.keys value.eps value.eps_rec value.levels runs.never_falls runs.index c.loop-lane.invariant.some).0,
      );
      each = λ k less. absurd (omega arith);
    }

pub loop-lane-2-preserved : goal.loop-lane-2-preserved
loop-lane-2-preserved c =
    let value = c.args.self.now in
    let runs = c.runs-runs.ensures in
    let xs = xs_at value.keys value.levels 1 in
    let inv = c.loop-lane-2.invariant in
    let lane = c.loop-lane-2.lane in
    let here = c.begun_between-low in
    let first = first_run
    value.keys value.eps value.eps_rec value.levels runs.never_falls runs.index c.loop-lane.invariant.some in
    let rises = (ascends value.keys value.eps value.eps_rec value.levels runs.never_falls runs.index 1
    (runs.index.some c.loop-lane.invariant.some)).rises in
    let file : slice_index c.as_slice.result.now 0 ≡ slice_index xs 0 =
    ap (λ (l : List ℕ). slice_index l 0) (c.as_slice.ensures.keys ∙ c.keys-keys.ensures) ∙ sym first.1 in
    let asked : slice_index c.loop-lane.asked lane ≡ max (slice_index c.args.qs.now lane) (slice_index xs 0) =
    c.loop-lane.invariant.done lane (omega (arith, c.loop-lane-test.false, c.loop-lane-2-test.true))
    ∙ ap (max (slice_index c.args.qs.now lane)) file in
    record {
      lanes = length-set c.loop-lane-2.lows lane c.saturating_sub-run.result ∙ inv.lanes;
      some = omega (arith, inv.some, c.max-count.ensures);
      most = omega (arith, inv.most, c.max-count.ensures, c.saturating_sub.ensures, here.ensures.between.within);
      each = lane_done
          (λ (k low : ℕ). (place : ℕ) → IsPredecessor xs (slice_index c.loop-lane.asked k) place →
          (low ≤ place) × (place < low + c.max-count.result))
          c.loop-lane-2.lows lane c.saturating_sub-run.result
          (omega (arith, inv.lanes, c.loop-lane-2-test.true))
          (λ k less place found. let both = inv.each k less place found in
          (both.0, omega (arith, both.1, c.max-count.ensures)))
          (λ place found. let both = raised_run xs (slice_index c.args.qs.now lane) (slice_index c.loop-lane.asked lane)
          here.result.0 here.result.1 c.max-count.result place rises here.ensures.between asked
          (omega (arith, inv.some, c.max-count.ensures))
          (omega (arith, c.max-count.ensures, c.saturating_sub.ensures, c.saturating_sub-run.ensures)) found in
          (omega (arith, both.0, c.saturating_sub-run.ensures), omega (arith, both.1, c.saturating_sub-run.ensures)));
    }

pub returns-clause-found : goal.returns-clause-found
returns-clause-found c = λ k inside.
    let value = c.args.self.now in
    let file : c.as_slice.result.now ≡ value.keys = c.as_slice.ensures.keys ∙ c.keys-keys.ensures in
    c.bounds_below.ensures.found k inside
    ∙ ap (λ (q : ℕ). lb value.keys q) (c.loop-lane.invariant.done k (omega (arith, inside, c.loop-lane-test.false)))
    ∙ lb-raised value.keys (slice_index c.args.qs.now k) (slice_index c.as_slice.result.now 0)
    c.runs-runs.ensures.never_falls (ap (λ (l : List ℕ). slice_index l 0) file)
