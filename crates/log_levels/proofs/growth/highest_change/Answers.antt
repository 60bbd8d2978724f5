use Rattle.std.proofs.Common.{◌≡◌, ◌+◌, ◌/◌, ◌%◌, ◌^◌, ◌<◌, ◌≤◌, ℕ, sym, ◌∙◌, inl, inr, arith}
use Rattle.std.proofs.Math.Nat.{pow-le-pow_right}
use Rattle.std.proofs.lemmas.Bool.{cases_lt}
use Rattle.std.proofs.lemmas.Nat.{div-add-mod', mod_below}
use Rattle.std.specs.Int.{bit_at}
use Rattle.log_levels.proofs.BitLemmas.{quotient-more, quotient-small}
use Rattle.log_levels.proofs.growth.highest_change.Goals as goal

-- two numbers with one half, one less than the other
halves : (q r : ℕ) → q < r → q / 2 ≡ r / 2 → (q % 2 ≡ 0) × (r % 2 ≡ 1)
halves q r less same =
    let first = div-add-mod' q 2 in
    let second = div-add-mod' r 2 in
    let low = mod_below q 2 (omega arith) in
    let high = mod_below r 2 (omega arith) in
    (omega arith, omega arith)

at_end : (before after top : ℕ) → before / 2 ^ top < after / 2 ^ top →
    before / 2 ^ (top + 1) ≡ after / 2 ^ (top + 1) → (bit_at before top ≡ 0) × (bit_at after top ≡ 1)
at_end before after top less same = halves _ _ less (sym (quotient-more top before) ∙ same ∙ quotient-more top after)

pub returns-clause-inside : goal.returns-clause-inside
returns-clause-inside c = λ count few. elim (cases_lt c.loop-top.top count) [
  | inl less ↦ less
  | inr at_least ↦
      let power : 2 ^ count ≤ 2 ^ c.loop-top.top = pow-le-pow_right (omega arith) at_least in
      let none = quotient-small c.loop-top.top c.args.after (omega arith) in
      absurd (omega (arith, c.loop-top.invariant.differ))
]

pub returns-clause-was_clear : goal.returns-clause-was_clear
returns-clause-was_clear c =
    (at_end c.args.before c.args.after c.loop-top.top c.loop-top.invariant.differ c.loop-top-test.false).0

pub returns-clause-is_set : goal.returns-clause-is_set
returns-clause-is_set c =
    (at_end c.args.before c.args.after c.loop-top.top c.loop-top.invariant.differ c.loop-top-test.false).1
