use Rattle.std.proofs.Common.{◌≡◌, ◌+◌, ◌/◌, ◌++◌, length, subst, sym, ap, ◌∙◌, inl, inr, arith}
use Rattle.std.proofs.lemmas.Bool.{cases_lt}
use Rattle.log_levels.specs.Shapes.{Held, IsLevelFor}
use Rattle.log_levels.specs.Kept.{shared_of}
use Rattle.log_levels.proofs.HeldLemmas.{length-levels_of, levels_of-before, levels_of-last}
use Rattle.log_levels.proofs.log_map.LogMap.levels_with.Goals as goal

pub loop-i-preserved : goal.loop-i-preserved
loop-i-preserved g c = record {
  count = omega (arith, c.push.new.self.ok.0, c.loop-i.levels.ok.0, c.in_ok-push.ensures.len, c.loop-i.invariant.count);
  levels = λ i below entries cut.
      let blocks = (c.args.self.now.accepted + length c.args.new.now) / 64 in
      elim (cases_lt i c.loop-i.i) [
        | inl earlier ↦ subst (IsLevelFor (entries ++ c.args.new.now) blocks i)
            (sym (levels_of-before c.loop-i.levels.items c.push.new.self.items
            c.in_ok-level_with.field-0 i c.in_ok-push.ensures.items (omega (arith, c.loop-i.invariant.count))))
            (c.loop-i.invariant.levels i earlier entries cut)
        | inr later ↦
            let same : c.loop-i.i ≡ i = omega arith in
            subst (IsLevelFor (entries ++ c.args.new.now) blocks i)
            (sym (levels_of-last c.loop-i.levels.items c.push.new.self.items
            c.in_ok-level_with.field-0 i c.in_ok-push.ensures.items (c.loop-i.invariant.count ∙ same)))
            (subst (λ k. IsLevelFor (entries ++ c.args.new.now) blocks k (shared_of c.in_ok-level_with.field-0)) same
            (c.in_ok-level_with.ensures entries cut))
      ];
}

pub returns-clause-levels : goal.returns-clause-levels
returns-clause-levels g c = λ i inside.
    c.loop-i.invariant.levels i
    (omega (
      arith,
      ap (λ (held : Held). length held.levels) c.self.view_is,
      length-levels_of c.self.inside.stored.items,
      c.self.inside.stored.ok.0,
      c.len-count.ensures,
      c.loop-i.auto.i-end,
    ))
