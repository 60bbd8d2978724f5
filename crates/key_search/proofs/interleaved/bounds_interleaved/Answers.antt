-- The first step leaves as many places as the highest bit of one less has.
use Rattle.std.proofs.Common.{◌≡◌, ◌^◌, ◌<◌, ℕ, sym, subst, inl, inr, arith}
use Rattle.std.proofs.lemmas.Bool.{cases_lt}
use Rattle.std.proofs.lemmas.Nat.{pow_below}
use Rattle.key_search.specs.Interleaved.{HaveBounds}
use Rattle.key_search.proofs.interleaved.bounds_interleaved.Goals as goal

short_of : (shift : ℕ) → 2 ^ shift < 4294967296 → shift < 32
short_of shift few = elim (cases_lt shift 32) [
  | inl less ↦ less
  | inr more ↦ elim (cases_lt 32 shift) [
    | inl long ↦ absurd (omega (arith, few, pow_below 32 shift long))
    | inr same ↦ let is : shift ≡ 32 = omega arith in
        absurd (subst (λ (n : ℕ). 2 ^ n < 4294967296 → ⊥) (sym is) (λ less. omega (arith, less)) few)
  ]
]

pub loop-shift-init : goal.loop-shift-init
loop-shift-init c =
    let shift = c.ilog2-shift.result in
    let few : 2 ^ shift < 4294967296 = omega (arith, c.ilog2-shift.ensures.power_le, c.requires.most) in
    record {
      short = short_of shift few;
      bounds = subst (HaveBounds c.args.list.now c.args.qs.now c.halve_bounds.new.bases)
          (omega (arith, few)) c.halve_bounds.ensures;
    }
