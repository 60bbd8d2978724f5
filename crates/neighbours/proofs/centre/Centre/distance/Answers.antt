-- One coordinate more.
use Rattle.std.proofs.Common.{◌≡◌, sym, ap, ◌∙◌, arith, ℕ, slice_index}
use Rattle.std.specs.Int.{abs_diff}
use Rattle.zorder.specs.Codes.{coordinate}
use Rattle.neighbours.specs.Around.{apart}
use Rattle.neighbours.specs.Metrics.{code_in, through}
use Rattle.neighbours.proofs.MetricLemmas.{through_more, through_none}
use Rattle.neighbours.proofs.centre.Centre.distance.Goals as goal

pub loop-c-init : goal.loop-c-init
loop-c-init g c = record { so_far = sym (through_none _ _); small = omega arith }

pub loop-c-preserved : goal.loop-c-preserved
loop-c-preserved g c =
    let step = g.M.Metric.step in
    let d = c.args.self.now.d in
    let centre = c.args.self.now.coords in
    let each : ℕ → ℕ = apart d centre (code_in d c.args.z) in
    let at = c.loop-c.c in
    let here : c.abs_diff.result ≡ each at =
    c.abs_diff.ensures
    ∙ ap (λ (x : ℕ). abs_diff x (slice_index centre at))
    (c.decode-coords.ensures.coordinates at (omega arith)
    ∙ ap (λ (z : ℕ). coordinate d at z) c.code_of.ensures.bits) in
    record {
      so_far = c.with-far.ensures ∙ ap (λ (x : ℕ). step c.loop-c.far x) here
          ∙ ap (λ (y : ℕ). step y (each at)) c.loop-c.invariant.so_far ∙ sym (through_more step each at);
      small = omega (
        arith,
        c.with-far.ensures,
        g.met.M.Metric.small c.loop-c.far c.abs_diff.result (omega arith),
        c.loop-c.invariant.small,
      );
    }

pub returns : goal.returns
returns g c =
    let last : c.loop-c.c ≡ c.args.self.now.d = omega arith in
    c.loop-c.invariant.so_far
    ∙ ap (through g.M.Metric.step (apart c.args.self.now.d c.args.self.now.coords (code_in c.args.self.now.d c.args.z)))
    last
