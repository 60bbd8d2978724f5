-- One more place; at the end all.
use Rattle.std.proofs.Common.{◌≢◌, ◌+◌, ◌<◌, ℕ, length, get_or-set_other, get_or-set_same, below_more}
use Rattle.std.proofs.Common.{ap, ◌∙◌, arith}
use Rattle.std.proofs.Math.ListN.{length-set}
use Rattle.neighbours.specs.Metrics.{far}
use Rattle.neighbours.specs.Neighbours.{neighbour_at}
use Rattle.neighbours.proofs.NearestLemmas.{written_whole}
use Rattle.neighbours.proofs.places.write_places.Goals as goal

pub loop-i-preserved : goal.loop-i-preserved
loop-i-preserved g c =
    let at = c.loop-i.i in
    let one = c.new.result in
    record {
      long = length-set c.loop-i.places at one ∙ c.loop-i.invariant.long;
      each = below_more _ _
          (λ k h. let other : k ≢ at = omega arith in
          get_or-set_other c.loop-i.places at k one (neighbour_at 0 0) other ∙ c.loop-i.invariant.each k h)
          (let inside : at < length c.loop-i.places = omega arith in
          get_or-set_same c.loop-i.places at one (neighbour_at 0 0) inside
          ∙ c.new.ensures ∙ ap (λ (n : ℕ). neighbour_at n (c.args.first + at)) c.distance.ensures);
    }

pub returns : goal.returns
returns g c =
    written_whole (far g.M.Metric.step c.args.centre.now.d c.args.centre.now.coords) c.args.first c.args.codes.now
    c.loop-i.places c.loop-i.invariant.long (λ k within. c.loop-i.invariant.each k (omega arith))
