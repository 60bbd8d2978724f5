-- Pair by pair.
use Rattle.std.proofs.Common.{◌≡◌, ◌-◌, slice_index_or, ap, inl, inr, arith}
use Rattle.std.proofs.lemmas.Bool.{cases_lt}
use Rattle.log_levels.proofs.load.first_stall.Goals as goal

pub returns-then-pairs-place-clause-some : goal.returns-then-pairs-place-clause-some
returns-then-pairs-place-clause-some c = record {
  some = omega arith;
  inside = c.loop-place-test.true;
  stalls = c.if-pairs-place.true;
  before = c.loop-place.invariant;
}

pub loop-place-preserved : goal.loop-place-preserved
loop-place-preserved c = λ k some less. elim (cases_lt k c.loop-place.place) [
  | inl low ↦ c.loop-place.invariant k some low
  | inr rest ↦
      let same : k ≡ c.loop-place.place = omega arith in
      omega (
        arith,
        c.if-pairs-place.false,
        ap (λ j. (slice_index_or c.args.pairs.now (j - 1) (0, 0)).0) same,
        ap (λ j. (slice_index_or c.args.pairs.now j (0, 0)).0) same,
      )
]

pub returns-clause-none : goal.returns-clause-none
returns-clause-none c = λ none place stall. absurd
    (omega (
      arith,
      stall.stalls,
      c.loop-place.invariant place stall.some (omega (arith, stall.inside, c.loop-place-test.false)),
    ))

pub returns-clause-rising : goal.returns-clause-rising
returns-clause-rising c =
    λ none k some inside. c.loop-place.invariant k some (omega (arith, inside, c.loop-place-test.false))
