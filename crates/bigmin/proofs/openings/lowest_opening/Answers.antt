-- The zeros below a difference from the high end, from the highest decision on,
-- are the openings, and the lowest of them is as high as there are zeros below it.
use Rattle.std.proofs.Common.{◌<◌, ◌≢◌, ℕ, ap, arith}
use Rattle.std.specs.Int.{bit_at}
use Rattle.std.proofs.lemmas.Nat.Bits.{bit_at-zero}
use Rattle.bigmin.proofs.PlaceLemmas.{bit-from_opens, lowest-from_open}
use Rattle.bigmin.proofs.openings.lowest_opening.Goals as goal

pub returns-then-open-eq0 : goal.returns-then-open-eq0
returns-then-open-eq0 c = λ i opens.
    let one = bit-from_opens c.args.d c.args.z c.args.low c.args.high c.highest_decision.result c.filled_down.result
    (omega (arith, c.requires)) c.ranges.z.fits c.ranges.high.fits
    c.highest_decision.ensures.within c.highest_decision.ensures.highest c.filled_down.ensures i opens in
    omega (arith, one, bit_at-zero i, ap (λ n. bit_at n i) c.if-open-eq0.true)

pub returns : goal.returns
returns c = lowest-from_open c.args.d c.args.z c.args.low c.args.high c.highest_decision.result c.filled_down.result
    (omega (arith, c.requires)) c.ranges.z.fits c.ranges.high.fits c.highest_decision.ensures.within
    c.highest_decision.ensures.highest c.filled_down.ensures (positive _ c.if-open-eq0.false)
  where
    positive : (n : ℕ) → n ≢ 0 → 0 < n
    positive n some = omega (arith, some)
