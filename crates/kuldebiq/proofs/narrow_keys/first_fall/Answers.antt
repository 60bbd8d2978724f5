-- Key by key.
use Rattle.std.proofs.Common.{◌≡◌, ◌+◌, ◌-◌, slice_index, ap, inl, inr, arith}
use Rattle.std.proofs.lemmas.Bool.{cases_lt}
use Rattle.exact_cross.proofs.CallerLemmas.{IsNonDecreasing-from_neighbours}
use Rattle.kuldebiq.proofs.narrow_keys.first_fall.Goals as goal

pub loop-place-init : goal.loop-place-init
loop-place-init c = λ k first.
    let same : k - 1 ≡ k = omega arith in
    omega (arith, ap (slice_index c.args.keys.now) same)

pub returns-then-keys-place-clause-falls : goal.returns-then-keys-place-clause-falls
returns-then-keys-place-clause-falls c = record {
  inside = c.loop-place-test.true;
  falls = c.if-keys-place.true;
  before = c.loop-place.invariant;
}

pub loop-place-preserved : goal.loop-place-preserved
loop-place-preserved c = λ k less. elim (cases_lt k c.loop-place.place) [
  | inl low ↦ c.loop-place.invariant k low
  | inr rest ↦
      let same : k ≡ c.loop-place.place = omega arith in
      omega (
        arith,
        c.if-keys-place.false,
        ap (λ j. slice_index c.args.keys.now (j - 1)) same,
        ap (slice_index c.args.keys.now) same,
      )
]

pub returns-clause-none : goal.returns-clause-none
returns-clause-none c = λ none.
    let keys = c.args.keys.now in
    IsNonDecreasing-from_neighbours keys (λ k inside.
    let here : k + 1 - 1 ≡ k = omega arith in
    omega (
      arith,
      c.loop-place.invariant (k + 1) (omega (arith, c.loop-place-test.false, inside)),
      ap (slice_index keys) here,
    ))
