-- Pair by pair.
use Rattle.std.proofs.Common.{◌≡◌, ◌-◌, slice_index_or, ap, inl, inr, arith}
use Rattle.std.proofs.lemmas.Bool.{cases_lt}
use Rattle.kuldebiq.specs.Pairs.{tuples_of}
use Rattle.kuldebiq.proofs.PairLemmas.{key-of, length-tuples}
use Rattle.kuldebiq.proofs.load_calls.first_stall.Goals as goal

pub returns-then-pairs-place-clause-some : goal.returns-then-pairs-place-clause-some
returns-then-pairs-place-clause-some c =
    let pairs = c.args.pairs.now in let place = c.loop-place.place in
    record {
      some = omega arith;
      inside = omega (arith, c.loop-place-test.true, length-tuples pairs);
      stalls =
          omega (
            arith,
            c.if-pairs-place.true,
            key-of pairs place c.loop-place-test.true,
            key-of pairs (place - 1) (omega (arith, c.loop-place-test.true)),
          );
      before = c.loop-place.invariant;
    }

pub loop-place-preserved : goal.loop-place-preserved
loop-place-preserved c = λ k some less.
    let pairs = c.args.pairs.now in let place = c.loop-place.place in
    elim (cases_lt k place) [
      | inl low ↦ c.loop-place.invariant k some low
      | inr rest ↦
          let same : k ≡ place = omega arith in
          omega (
            arith,
            c.if-pairs-place.false,
            key-of pairs place c.loop-place-test.true,
            key-of pairs (place - 1) (omega (arith, c.loop-place-test.true)),
            ap (λ j. (slice_index_or (tuples_of pairs) (j - 1) (0, 0)).0) same,
            ap (λ j. (slice_index_or (tuples_of pairs) j (0, 0)).0) same,
          )
    ]

pub returns-clause-rising : goal.returns-clause-rising
returns-clause-rising c = λ none k some inside.
    c.loop-place.invariant k some (omega (arith, inside, c.loop-place-test.false, length-tuples c.args.pairs.now))
