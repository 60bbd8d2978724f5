-- A cross product of a slope's rise and another's run fits 128 bits, so the code's conversions change no value.
use Rattle.std.proofs.Common.{◌≡◌, ℕ, ◌<◌, ◌≤◌, ◌^◌, ◌-◌, ℤ, pos, negsuc, ◌*ℤ◌, ap, ◌∙◌, arith, rules}
use Rattle.std.specs.Int.{w64, w128, cast_signed, cast_unsigned}
use Rattle.std.specs.Int.RustNames.{FitsSigned, unsigned_abs}
use Rattle.std.proofs.lemmas.Int.{to_z-of_z, fits_signed_mul, fits_signed_from_abs}
use Rattle.exact_cross.proofs.slope.Slope.cmp.Goals as goal

-- the absolute value of a number of 64 bits
abs_within : (z : ℤ) → FitsSigned w64 z → unsigned_abs z ≤ 2 ^ 63
abs_within (pos n) fits = omega arith
abs_within (negsuc n) fits = omega arith

-- the conversion to 128 bits keeps a number of 64 bits
widened : (z z' : ℤ) →
    FitsSigned w64 z → z' ≡ cast_signed w64 (cast_unsigned w64 z) → cast_signed w128 (cast_unsigned w128 z') ≡ z
widened z z' fits e =
    let e' : z' ≡ z = e ∙ to_z-of_z w64 z fits in
    let fits' : FitsSigned w128 z = fits_signed_from_abs w128 z (omega (arith, abs_within z fits)) in
    ap (λ (x : ℤ). cast_signed w128 (cast_unsigned w128 x)) e' ∙ to_z-of_z w128 z fits'

-- so does that of an unsigned number of 64 bits
widened_run : (n : ℕ) (z : ℤ) → n < 2 ^ 64 → z ≡ pos n → cast_signed w128 (cast_unsigned w128 z) ≡ pos n
widened_run n z small e =
    let fits : FitsSigned w128 (pos n) = fits_signed_from_abs w128 (pos n) (omega arith) in
    ap (λ (x : ℤ). cast_signed w128 (cast_unsigned w128 x)) e ∙ to_z-of_z w128 (pos n) fits

-- the product of a rise and a run, as the code makes it
product : (rise rise' run' : ℤ) (run : ℕ) →
    FitsSigned w64 rise → run < 2 ^ 64 → rise' ≡ cast_signed w64 (cast_unsigned w64 rise) → run' ≡ pos run →
    cast_signed w128
    (cast_unsigned w128 (cast_signed w128 (cast_unsigned w128 rise') *ℤ cast_signed w128 (cast_unsigned w128 run')))
    ≡ rise *ℤ pos run
product rise rise' run' run fits small e f =
    let whole : FitsSigned w128 (rise *ℤ pos run) =
    fits_signed_mul w128 rise (pos run) (2 ^ 63) (2 ^ 64 - 1) (abs_within rise fits) (omega arith) (omega arith) in
    rw (widened rise rise' fits e, widened_run run run' small f) (to_z-of_z w128 (rise *ℤ pos run) whole)

pub returns : goal.returns
returns c =
    let this = c.args.self.now in
    let that = c.args.other.now in
    let fits_this : FitsSigned w64 this.rise = search rules in
    let fits_that : FitsSigned w64 that.rise = search rules in
    let left = product this.rise c.from.result c.from-2.result that.run fits_this
    (omega arith) c.from.ensures c.from-2.ensures in
    let right = product that.rise c.from-3.result c.from-4.result this.run fits_that
    (omega arith) c.from-3.ensures c.from-4.ensures in
    record { order = rw (← left, ← right) c.cmp.ensures }
