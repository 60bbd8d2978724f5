-- Leading zeros and binary places are 64 together.
use Rattle.std.proofs.Common.{◌≡◌, ◌-◌, ◌<◌, ◌≤◌, ◌+◌, ◌*◌, ◌^◌, ℕ, sym, subst, arith}
use Rattle.std.specs.Int.Count.{count_leading_zeros}
use Rattle.std.proofs.lemmas.Nat.{leading_length}
use Rattle.hints.proofs.line_hints.binary_places.Goals as goal

places : (width : ℕ) → width < 2 ^ 64 → (width < 2 ^ (64 - count_leading_zeros 64 width)) ×
    (2 ^ (64 - count_leading_zeros 64 width) ≤ 2 * width + 1)
places width short =
    let known = leading_length 64 width short in
    let is : 64 - count_leading_zeros 64 width ≡ known.0 = omega (arith, known.1) in
    (subst (λ (m : ℕ). width < 2 ^ m) (sym is) known.2, subst (λ (m : ℕ). 2 ^ m ≤ 2 * width + 1) (sym is) known.3)

pub returns-clause-fits : goal.returns-clause-fits
returns-clause-fits c = (places c.args.width (omega (arith, c.ranges.width.fits))).0

pub returns-clause-least : goal.returns-clause-least
returns-clause-least c = (places c.args.width (omega (arith, c.ranges.width.fits))).1
