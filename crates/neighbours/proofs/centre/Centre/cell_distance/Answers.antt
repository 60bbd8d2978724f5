-- By one more coordinate none is nearer.
use Rattle.std.proofs.Common.{◌≡◌, ◌+◌, ◌-◌, ◌*◌, ◌/◌, ◌^◌, ◌≤◌, ℕ, ap, sym, ◌∙◌, subst, arith, w64}
use Rattle.std.specs.Prelude.{bit_xor}
use Rattle.std.specs.Int.{leading_zeros}
use Rattle.zorder.specs.Codes.{IsCode, coordinate}
use Rattle.zorder.proofs.CallerLemmas.{code_fits}
use Rattle.neighbours.specs.Around.{apart}
use Rattle.neighbours.specs.Metrics.{code_in, through}
use Rattle.neighbours.proofs.CellLemmas.{begin_alike, between_alike, coordinates_alike, differing_bits}
use Rattle.neighbours.proofs.MetricLemmas.{code_in_code, through_more}
use Rattle.neighbours.proofs.centre.Centre.cell_distance.Goals as goal

pub loop-c-init : goal.loop-c-init
loop-c-init g c = record { near = λ z first_is code from to. omega arith; small = omega arith }

pub loop-c-preserved : goal.loop-c-preserved
loop-c-preserved g c =
    let step = g.M.Metric.step in
    let d = c.args.self.now.d in
    let is = c.args.self.now.dimension in
    let centre = c.args.self.now.coords in
    let at = c.loop-c.c in
    let first = c.args.first in
    let last = c.args.last in
    let n = 64 - leading_zeros w64 (bit_xor first last) in
    let free = (n + d - 1 - at) / d in
    record {
      near = λ z first_is code from to.
          let w = code_in d z in
          let w_is : w ≡ z = code_in_code d z code in
          let first_fits = code_fits d first is first_is in
          let each : ℕ → ℕ = apart d centre w in
          let alike = between_alike first last w n
          (begin_alike first last n (differing_bits first last first_fits c.ranges.last.fits))
          (omega (arith, w_is)) (omega (arith, w_is)) in
          let enough : n ≤ free * d + at = omega arith in
          let same = coordinates_alike d at first w n free (omega arith) first_fits
          (code_fits d w is (subst (IsCode d) (sym w_is) code)) alike enough in
          let first_in : c.code_of.result ≡ first = c.code_of.ensures.bits ∙ code_in_code d first first_is in
          let near = c.interval_distance-apart.ensures (coordinate d at w)
          (same ∙ ap (λ (v : ℕ). coordinate d at v / 2 ^ free) (sym first_in)
          ∙ ap (λ (v : ℕ). v / 2 ^ free) (sym (c.decode-coords.ensures.coordinates at (omega arith)))) in
          omega (
            arith,
            c.with-far.ensures,
            through_more step each at,
            g.met.M.Metric.rises
                c.loop-c.far (through step each at) c.interval_distance-apart.result (each at)
                (c.loop-c.invariant.near z first_is code from to) near,
          );
      small = omega (
        arith,
        c.with-far.ensures,
        g.met.M.Metric.small c.loop-c.far c.interval_distance-apart.result (omega arith),
        c.loop-c.invariant.small,
      );
    }

pub returns : goal.returns
returns g c = λ z first_is code from to.
    let d = c.args.self.now.d in
    let last : c.loop-c.c ≡ d = omega arith in
    subst (λ (n : ℕ). c.loop-c.far ≤ through g.M.Metric.step (apart d c.args.self.now.coords (code_in d z)) n) last
    (c.loop-c.invariant.near z first_is code from to)
