use Rattle.std.proofs.Common.{◌≡◌, ◌+◌, ◌≤◌, max, refl, ◌∙◌, subst, sym, arith}
use Rattle.log_levels.specs.Kept.{IsLeft}
use Rattle.log_levels.proofs.WalkLemmas.{next-live, none-past, none-left}
use Rattle.log_levels.proofs.log_map.LogMap.next_pair.Goals as goal

pub returns-in-Some-value-clause-live : goal.returns-in-Some-value-clause-live
returns-in-Some-value-clause-live c = λ entries cut.
    next-live c.args.self.now entries c.args.from c.loop-entry.low
    c.in-Some.entry.key c.in-Some-value.value cut c.loop-entry.invariant.from (omega (arith, c.if-from-low.false))
    (λ other above below. c.loop-entry.invariant.none entries other cut above below) c.in-Some.ensures.least
    (sym c.in-Some-value.is ∙ sym (c.in-Some.ensures.last entries (omega (arith, c.if-from-low.false)) cut))

pub returns-clause-live : goal.returns-clause-live
returns-clause-live c = λ entries cut.
    none-left c.args.self.now entries c.args.from c.loop-entry.low cut
    (λ other above below. c.loop-entry.invariant.none entries other cut above below)
    (c.in_default.ensures.none refl)

pub loop-entry-preserved : goal.loop-entry-preserved
loop-entry-preserved c =
    let same : c.from-low.result ≡ c.in-Some.entry.key = c.from-low.ensures in
    let above : c.loop-entry.low ≤ c.in-Some.entry.key = omega (arith, c.if-from-low.false, c.from.ensures) in
    let next : max c.loop-entry.low (c.in-Some.entry.key + 1) ≡ c.from-low.result + 1 = omega arith in
    record {
      left = subst (IsLeft c.args.self.now c.take_least.new.walk) next c.in-Some.ensures.left;
      from = omega (arith, c.loop-entry.invariant.from);
      few = omega arith;
      none = λ entries key cut from_key less.
          none-past c.args.self.now entries c.args.from c.loop-entry.low c.in-Some.entry.key cut
          (λ other above' below. c.loop-entry.invariant.none entries other cut above' below) c.in-Some.ensures.least
          (sym (c.in-Some.ensures.last entries above cut ∙ c.in_default-value.is)) key from_key (omega arith);
    }
