-- Each part is counted of the inputs that were drawn.
use Rattle.std.proofs.Common.{◌≡◌, ◌∙◌, ap, subst, length, map, ℕ, List}
use Rattle.std.specs.Prelude.{sum}
use Rattle.key_points.specs.KeyPoints.{distinct_of}
use Rattle.window_search.specs.Searches.{lb}
use Rattle.levels.specs.Indexes.{IsIndex}
use Rattle.levels.proofs.CallerLemmas.{xs_at-length}
use Rattle.boxes.specs.PointCodes.{AreSortedCodes}
use Rattle.log_levels.specs.Maps.{live_in, map_after}
use Rattle.drill_inputs.specs.Inputs.{keys_of}
use Rattle.drill_inputs.proofs.LiveLemmas.{live-count}
use Rattle.commands.proofs.drill.counts_of.Goals as goal

pub returns : goal.returns
returns g c =
    let n = c.args.drill.number in
    let seed = c.args.drill.seed in
    let levels = c.in_ok-index.index.levels in
    let drawn = c.in_ok-inputs.ensures in
    let keys : c.in_ok-index.index.keys ≡ keys_of n seed = c.in_ok-index.ensures.of_keys ∙ drawn.keys in
    let finds = c.deref.ensures.value ∙ drawn.finds in
    let coordinates = c.deref-2.ensures.value ∙ drawn.coordinates in
    let updates = c.deref-3.ensures.value ∙ drawn.updates in
    let found = c.in_ok-found.ensures in
    record {
      distinct = c.distinct_count.ensures ∙ ap (λ (k : List ℕ). length (distinct_of k)) (c.keys.ensures ∙ keys);
      levels = levels;
      index = subst (λ (k : List ℕ). IsIndex k c.args.bounds.eps c.args.bounds.eps_rec levels)
          drawn.keys c.in_ok-index.ensures.levels;
      level_count = c.level_count.ensures.count;
      runs = c.runs.ensures.count ∙ xs_at-length c.in_ok-index.index.keys levels 0;
      sum = c.in_ok-sum.ensures
          ∙ ap (λ k. sum (map (lb k) c.deref.result.now)) keys ∙ ap (λ q. sum (map (lb (keys_of n seed)) q)) finds;
      sorted = found.0;
      codes = subst (λ (p : List ℕ). AreSortedCodes 2 p found.0) coordinates found.1;
      found = found.2;
      looked = found.3;
      live = c.in_ok-live.ensures
          ∙ ap (λ u. live_in (map_after u)) updates ∙ live-count n seed c.args.drill.some c.args.drill.few;
    }
