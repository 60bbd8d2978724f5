-- Level by level, and what is behind all blocks in the buffer.
use Rattle.std.proofs.Common.{◌≡◌, ◌-◌, ◌*◌, ◌/◌, ◌++◌, List, length, take}
use Rattle.std.proofs.Common.{drop, refl, subst, sym, ap, ◌∙◌, inl, inr, arith}
use Rattle.std.proofs.lemmas.Bool.{cases_lt}
use Rattle.tombstones.specs.declared.entry.Entry.{Entry}
use Rattle.log_levels.specs.Shapes.{IsLevelFor}
use Rattle.log_levels.specs.Kept.{entries_put, held_of, shared_of}
use Rattle.std.proofs.lemmas.List.{take_rest}
use Rattle.log_levels.proofs.HeldLemmas.{capacity_is, length-levels_of, levels_of-before, levels_of-last}
use Rattle.log_levels.proofs.LoadLemmas.{cut-put}
use Rattle.log_levels.proofs.load.map_put.Goals as goal

pub loop-i-preserved : goal.loop-i-preserved
loop-i-preserved c = record {
  count = omega (arith, c.push.new.self.ok.0, c.loop-i.stored.ok.0, c.in_ok-push.ensures.len, c.loop-i.invariant.count);
  levels = λ i below.
      let all = entries_put c.args.pairs.now in
      let blocks = length c.args.pairs.now / 64 in
      elim (cases_lt i c.loop-i.i) [
        | inl earlier ↦ subst (IsLevelFor all blocks i)
            (sym (levels_of-before c.loop-i.stored.items c.push.new.self.items
            c.in_ok-level_put.field-0 i c.in_ok-push.ensures.items (omega (arith, c.loop-i.invariant.count))))
            (c.loop-i.invariant.levels i earlier)
        | inr later ↦
            let same : c.loop-i.i ≡ i = omega arith in
            subst (IsLevelFor all blocks i)
            (sym (levels_of-last c.loop-i.stored.items c.push.new.self.items
            c.in_ok-level_put.field-0 i c.in_ok-push.ensures.items (c.loop-i.invariant.count ∙ same)))
            (subst (λ k. IsLevelFor all blocks k (shared_of c.in_ok-level_put.field-0)) same c.in_ok-level_put.ensures)
      ];
}

pub level_put-requires-clause-few : goal.level_put-requires-clause-few
level_put-requires-clause-few c =
    omega (arith, c.requires.fit, (capacity_is c.args.levels c.args.levels refl c.requires.few).2)

pub invariant_of-result : goal.invariant_of-result
invariant_of-result c =
    let pairs = c.args.pairs.now in
    let n = length pairs / 64 * 64 in
    let count = length-levels_of c.loop-i.stored.items ∙ c.loop-i.invariant.count in
    let buffer = c.put_each.ensures.items ∙ ap
    (λ (l : List Entry). l ++ entries_put (take (length pairs - n) (drop n pairs))) c.in_ok-buffer.ensures.items
    ∙ ap entries_put (take_rest pairs n) in
    record {
      cut = (
        entries_put pairs,
        cut-put pairs (held_of (length pairs) c.put_each.new.into.items c.loop-i.stored.items) c.args.levels refl buffer
            (omega (arith, count, c.loop-i.auto.i-end)) c.requires.fit
            (λ i inside. c.loop-i.invariant.levels i (omega (arith, count, c.loop-i.invariant.count))),
      );
      roomy = omega (arith, c.put_each.ensures.capacity, c.in_ok-buffer.ensures.exact);
      some = omega (arith, count, c.loop-i.auto.i-end, c.requires.some);
      few = omega (arith, count, c.loop-i.auto.i-end, c.requires.few);
      bare = λ entries key cut inside. absurd (c.none-bare.ensures key inside);
    }

pub returns-clause-cut : goal.returns-clause-cut
returns-clause-cut c =
    let pairs = c.args.pairs.now in
    let n = length pairs / 64 * 64 in
    let count = length-levels_of c.loop-i.stored.items ∙ c.loop-i.invariant.count in
    let buffer = c.put_each.ensures.items ∙ ap
    (λ (l : List Entry). l ++ entries_put (take (length pairs - n) (drop n pairs))) c.in_ok-buffer.ensures.items
    ∙ ap entries_put (take_rest pairs n) in
    cut-put pairs (held_of (length pairs) c.put_each.new.into.items c.loop-i.stored.items) c.args.levels refl buffer
    (omega (arith, count, c.loop-i.auto.i-end)) c.requires.fit
    (λ i inside. c.loop-i.invariant.levels i (omega (arith, count, c.loop-i.invariant.count)))
