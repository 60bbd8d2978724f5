use Rattle.std.proofs.Common.{◌≡◌, subst, sym, ◌∙◌, inl, inr, arith}
use Rattle.std.proofs.lemmas.Bool.{cases_lt}
use Rattle.log_levels.specs.Kept.{ArePlaces}
use Rattle.log_levels.proofs.DescentLemmas.{none-back, none-behind}
use Rattle.log_levels.proofs.SearchLemmas.{absent-value}
use Rattle.log_levels.proofs.log_map.LogMap.previous_pair.Goals as goal

pub returns-then-high-low-clause-live : goal.returns-then-high-low-clause-live
returns-then-high-low-clause-live c = λ entries cut key from less.
    none-behind c.args.self.now entries c.args.end c.loop-entry.high c.in-Some.entry.key cut
    (λ other past below. c.loop-entry.invariant.none entries other cut past below) c.in-Some.ensures.absent key
    (omega (arith, from, c.if-high-low.true, c.from-high.ensures)) less

pub returns-in-Some-value-clause-live : goal.returns-in-Some-value-clause-live
returns-in-Some-value-clause-live c = λ entries cut. (
  omega (arith, c.if-high-low.false, c.from-high.ensures),
  omega (arith, c.in-Some.ensures.below, c.loop-entry.invariant.within),
  c.in-Some.ensures.last entries cut ∙ c.in-Some-value.is,
  none-behind c.args.self.now entries c.args.end c.loop-entry.high c.in-Some.entry.key cut
      (λ other past below. c.loop-entry.invariant.none entries other cut past below) c.in-Some.ensures.absent,
)

pub returns-clause-live : goal.returns-clause-live
returns-clause-live c = λ entries cut key from less. elim (cases_lt key c.loop-entry.high) [
  | inl before ↦ absent-value c.args.self.now entries key cut (c.in_default.ensures.absent key before tt)
  | inr past ↦ c.loop-entry.invariant.none entries key cut past less
]

pub loop-entry-preserved : goal.loop-entry-preserved
loop-entry-preserved c =
    let same : c.from-high.result ≡ c.in-Some.entry.key = c.from-high.ensures in
    record {
      places = subst (ArePlaces c.args.self.now c.take_greatest.new.places) (sym same) c.in-Some.ensures.places;
      within = omega (arith, c.in-Some.ensures.below, c.loop-entry.invariant.within);
      none = λ entries key cut from less.
          none-back c.args.self.now entries c.args.end c.loop-entry.high c.in-Some.entry.key cut
          (λ other past below. c.loop-entry.invariant.none entries other cut past below) c.in-Some.ensures.absent
          (c.in-Some.ensures.last entries cut ∙ c.in_default-value.is) key (omega (arith, from, same)) less;
    }
