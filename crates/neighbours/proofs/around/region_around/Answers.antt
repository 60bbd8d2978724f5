-- One more interval has its ends; when all have, the region is the box.
use Rattle.std.proofs.Common.{◌≡◌, ℕ, ◌+◌, ◌-◌, ◌^◌, ◌<◌, ◌≢◌, length, min, get_or}
use Rattle.std.proofs.Common.{get_or-set_other, get_or-set_same, below_more, ◌∙◌, ap, arith}
use Rattle.std.proofs.Math.ListN.{length-set}
use Rattle.zorder.specs.Codes.{coordinate_bits}
use Rattle.neighbours.proofs.BoxLemmas.{range_fits, same_box, shifted_one}
use Rattle.neighbours.proofs.around.region_around.Goals as goal

pub loop-c-preserved : goal.loop-c-preserved
loop-c-preserved c =
    let limit = range_fits c.args.centre.now.d c.args.centre.now.dimension in
    let shifted = shifted_one (coordinate_bits c.args.centre.now.d) (2 ^ 32) (omega arith) limit in
    let at = c.loop-c.c in
    record {
      four = length-set c.loop-c.low at c.saturating_sub.result ∙ c.loop-c.invariant.four;
      four' = length-set c.loop-c.high at c.min.result ∙ c.loop-c.invariant.four';
      lows = below_more _ _
          (λ k h. let other : k ≢ at = omega arith in
          get_or-set_other c.loop-c.low at k c.saturating_sub.result 0 other ∙ c.loop-c.invariant.lows k h)
          (let inside : at < length c.loop-c.low = omega arith in
          get_or-set_same c.loop-c.low at c.saturating_sub.result 0 inside ∙ c.saturating_sub.ensures);
      highs = below_more _ _
          (λ k h. let other : k ≢ at = omega arith in
          get_or-set_other c.loop-c.high at k c.min.result 0 other ∙ c.loop-c.invariant.highs k h)
          (let inside : at < length c.loop-c.high = omega arith in
          omega (
            arith,
            get_or-set_same c.loop-c.high at c.min.result 0 inside,
            c.min.ensures,
            c.saturating_add.ensures,
            shifted,
          ));
    }

pub returns-clause-region : goal.returns-clause-region
returns-clause-region c =
    let d = c.args.centre.now.d in
    let centre = c.args.centre.now.coords in
    let long : length c.loop-c.low ≡ length centre = omega (arith, c.loop-c.invariant.four) in
    let long' : length c.loop-c.high ≡ length centre = omega (arith, c.loop-c.invariant.four') in
    let bits = shifted_one (coordinate_bits d) (2 ^ 32) (omega arith) (range_fits d c.args.centre.now.dimension) in
    same_box d centre c.args.reach c.loop-c.low c.loop-c.high long long'
    (λ k within. c.loop-c.invariant.lows k (omega arith))
    (λ k within. c.loop-c.invariant.highs k (omega arith)
    ∙ ap (λ (n : ℕ). min (get_or centre k 0 + c.args.reach) (n - 1)) bits)
