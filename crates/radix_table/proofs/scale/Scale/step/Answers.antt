-- The sum is the step, which fits.
use Rattle.std.proofs.Common.{◌≡◌, ◌<◌, ◌^◌, ℕ, ap, ◌∙◌, arith}
use Rattle.radix_table.specs.Tables.{dropped_of, step_with}
use Rattle.radix_table.proofs.ScaleLemmas.{shifted_fits, step_is}
use Rattle.radix_table.proofs.scale.Scale.step.Goals as goal

pub overflow_add-result : goal.overflow_add-result
overflow_add-result c =
    let scale = c.args.self.now in
    let d = c.saturating_sub-distance.result in
    let short : d < 2 ^ 64 = omega (arith, c.saturating_sub-distance.ensures, c.ranges.x.fits) in
    let is : c.max-dropped.result
    ≡ dropped_of scale.shift scale.kept d = omega (arith, c.max-dropped.ensures, c.saturating_sub.ensures) in
    omega (
      arith,
      step_is scale.shift scale.kept d c.from.result c.max-dropped.result c.requires.some c.requires.all
          short is c.from.ensures,
      shifted_fits scale.shift scale.kept d c.requires.some c.requires.all short,
    )

pub returns : goal.returns
returns c =
    let scale = c.args.self.now in
    let d = c.saturating_sub-distance.result in
    let short : d < 2 ^ 64 = omega (arith, c.saturating_sub-distance.ensures, c.ranges.x.fits) in
    let is : c.max-dropped.result
    ≡ dropped_of scale.shift scale.kept d = omega (arith, c.max-dropped.ensures, c.saturating_sub.ensures) in
    step_is scale.shift
    scale.kept d c.from.result c.max-dropped.result c.requires.some c.requires.all short is c.from.ensures
    ∙ ap (λ (n : ℕ). step_with scale.shift scale.kept n (dropped_of scale.shift scale.kept n))
    c.saturating_sub-distance.ensures
