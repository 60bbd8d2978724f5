-- A place that isn't allowed refuses the pair, and where each is allowed it is the pair.
use Rattle.std.proofs.Common.{◌≡◌, ℕ, ◌+◌, inl, inr, refl, sym, subst, arith}
use Rattle.std.proofs.lemmas.Bool.{eqb-true, eq-eqb, cases_lt}
use Rattle.exact_cross.specs.PointLists.{points_in}
use Rattle.exact_cross.specs.Steep.{IsPair}
use Rattle.exact_cross.proofs.CallerLemmas.{IsAscending-points_in}
use Rattle.cut_witness.specs.declared.pairs.Gap.{Gap}
use Rattle.cut_witness.specs.Pairs.{steep_gap, Allows}
use Rattle.cut_witness.proofs.PairGaps.{HasSteepPair-from_gaps, gaps-from_has_steep, HasSteepPair-alone}
use Rattle.cut_witness.proofs.pairs.is_steep.Goals as goal

pub returns-then-a-s : goal.returns-then-a-s
returns-then-a-s c =
    let one : c.args.e ≡ c.args.s + 1 = omega arith in
    record {
      exact = (
        λ test. HasSteepPair-alone (points_in c.args.points)
            c.args.eps c.args.s c.args.e c.args.a c.args.b one c.if-a-s.true (eqb-true _ _ test),
        λ has. eq-eqb _ _ (has.pair.alone one).1,
      );
    }

pub returns-then-not-allows : goal.returns-then-not-allows
returns-then-not-allows c =
    let p = points_in c.args.points in
    let ascends = IsAscending-points_in c.args.points in
    let pair : IsPair c.args.s c.args.e c.args.a c.args.b =
    record { from_start = c.if-a-s-2.false; rises = c.if-b-a.false; to_end = c.if-e-b.false } in
    record {
      exact = (
        λ never. absurd (cc never),
        λ has. c.if-not-allows.ensures.exact.1
            (subst (λ (g : Gap). Allows g c.args.a c.args.b c.loop-place.place) (sym c.steep_gap-gap.ensures.value)
            (gaps-from_has_steep p c.args.eps c.args.s c.args.e c.args.a c.args.b ascends c.requires.within pair
            (omega arith) has c.loop-place.place (omega arith) c.loop-place-test.true)),
      );
    }

pub loop-place-preserved : goal.loop-place-preserved
loop-place-preserved c = λ j from to.
    let here : Allows (steep_gap (points_in c.args.points) c.args.eps c.args.a c.args.b c.loop-place.place)
    c.args.a c.args.b c.loop-place.place =
    subst (λ (g : Gap). Allows g c.args.a c.args.b c.loop-place.place) c.steep_gap-gap.ensures.value
    (c.if-not-allows.ensures.exact.0 refl) in
    elim (cases_lt j c.loop-place.place) [
      | inl before ↦ c.loop-place.invariant j from before
      | inr last ↦
          let same : c.loop-place.place ≡ j = omega arith in
          subst (λ (n : ℕ).
          Allows (steep_gap (points_in c.args.points) c.args.eps c.args.a c.args.b n) c.args.a c.args.b n) same here
    ]

pub returns : goal.returns
returns c =
    let p = points_in c.args.points in
    let ascends = IsAscending-points_in c.args.points in
    let pair : IsPair c.args.s c.args.e c.args.a c.args.b =
    record { from_start = c.if-a-s-2.false; rises = c.if-b-a.false; to_end = c.if-e-b.false } in
    record {
      exact = (
        λ _. HasSteepPair-from_gaps p c.args.eps c.args.s c.args.e c.args.a c.args.b ascends c.requires.within pair
            (omega arith) (λ j from to. c.loop-place.invariant j from (omega arith)),
        λ _. refl,
      );
    }
