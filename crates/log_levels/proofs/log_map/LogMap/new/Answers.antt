use Rattle.std.proofs.Common.{◌≡◌, None, [], subst, sym, ◌∙◌, inl, inr, arith, refl}
use Rattle.std.proofs.lemmas.Bool.{cases_lt}
use Rattle.log_levels.specs.Kept.{held_of}
use Rattle.log_levels.specs.Shapes.{IsCutOf}
use Rattle.log_levels.proofs.HeldLemmas.{length-levels_of, levels_of-before, levels_of-last, empty-cut}
use Rattle.log_levels.proofs.UpdateLemmas.{entries_of-none}
use Rattle.log_levels.proofs.log_map.LogMap.new.Goals as goal

pub loop-level-preserved : goal.loop-level-preserved
loop-level-preserved c = record {
  count = omega
      (arith, c.push.new.self.ok.0, c.loop-level.stored.ok.0, c.in_ok-push.ensures.len, c.loop-level.invariant.count);
  none = λ i below. elim (cases_lt i c.loop-level._level) [
    | inl earlier ↦ levels_of-before c.loop-level.stored.items c.push.new.self.items None i c.in_ok-push.ensures.items
        (omega (arith, c.loop-level.invariant.count)) ∙ c.loop-level.invariant.none i earlier
    | inr later ↦ let same : c.loop-level._level ≡ i = omega arith in levels_of-last c.loop-level.stored.items
        c.push.new.self.items None i c.in_ok-push.ensures.items (c.loop-level.invariant.count ∙ same)
  ];
}

pub invariant_of-result : goal.invariant_of-result
invariant_of-result c =
    let count = length-levels_of c.loop-level.stored.items in
    record {
      cut = (
        [],
        empty-cut (held_of 0 c.in_ok-buffer.buffer.items c.loop-level.stored.items) refl c.in_ok-buffer.ensures.items
            (λ i inside. c.loop-level.invariant.none i (omega (arith, count, c.loop-level.invariant.count))),
      );
      roomy = omega (arith, c.in_ok-buffer.ensures.exact);
      some = omega (arith, count, c.loop-level.invariant.count, c.requires.some, c.loop-level.auto._level-end);
      few = omega (arith, count, c.loop-level.invariant.count, c.requires.few, c.loop-level.auto._level-end);
      bare = λ entries key cut inside. absurd (c.none-bare.ensures key inside);
    }

pub returns-clause-empty : goal.returns-clause-empty
returns-clause-empty c =
    let count = length-levels_of c.loop-level.stored.items in
    let here =
    empty-cut (held_of 0 c.in_ok-buffer.buffer.items c.loop-level.stored.items) refl c.in_ok-buffer.ensures.items
    (λ i inside. c.loop-level.invariant.none i (omega (arith, count, c.loop-level.invariant.count))) in
    subst (IsCutOf (held_of 0 c.in_ok-buffer.buffer.items c.loop-level.stored.items)) (sym entries_of-none) here
