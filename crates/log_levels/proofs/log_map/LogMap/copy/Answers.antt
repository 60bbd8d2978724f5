use Rattle.std.proofs.Common.{◌≡◌, ◌++◌, List, length, subst, sym, ap, ◌∙◌, arith}
use Rattle.tombstones.specs.declared.entry.Entry.{Entry}
use Rattle.log_levels.specs.Kept.{IsBareIn, held_of, levels_of}
use Rattle.log_levels.specs.Shapes.{Held, IsCutOf}
use Rattle.log_levels.proofs.HeldLemmas.{length-levels_of, held-same}
use Rattle.log_levels.proofs.log_map.LogMap.copy.Goals as goal

count : (c : goal.In_ok-extend_from_slice) → length (levels_of c.loop-i.stored.items) ≡ length c.args.self.now.levels
count c =
    omega (
      arith,
      length-levels_of c.loop-i.stored.items,
      c.loop-i.invariant.count,
      c.loop-i.auto.i-end,
      c.len-count.ensures,
      c.self.inside.stored.ok.0,
      length-levels_of c.self.inside.stored.items,
      ap (λ (held : Held). length held.levels) c.self.view_is,
    )

same : (c : goal.In_ok-extend_from_slice) →
    held_of c.self.inside.accepted c.extend_from_slice.new.self.items c.loop-i.stored.items ≡ c.args.self.now
same c = held-same c.args.self.now c.self.inside.accepted c.extend_from_slice.new.self.items
    (levels_of c.loop-i.stored.items)
    (ap (λ (held : Held). held.accepted) c.self.view_is)
    (c.in_ok-extend_from_slice.ensures.items
    ∙ ap (λ (list : List Entry). list ++ c.deref.result.now) c.in_ok-buffer.ensures.items
    ∙ c.deref.ensures.value ∙ ap (λ (held : Held). held.buffer) c.self.view_is)
    (count c) (λ i inside.
    c.loop-i.invariant.same i (omega (arith, length-levels_of c.loop-i.stored.items, c.loop-i.invariant.count)))

pub invariant_of-result : goal.invariant_of-result
invariant_of-result c =
    let (entries, cut) = c.self.invariant.cut in
    record {
      cut = (entries, subst (λ held. IsCutOf held entries) (c.self.view_is ∙ sym (same c)) cut);
      roomy = omega (arith, c.in_ok-extend_from_slice.ensures.capacity, c.in_ok-buffer.ensures.exact);
      some = omega (arith, count c, ap (λ (held : Held). length held.levels) c.self.view_is, c.self.invariant.some);
      few = omega (arith, count c, ap (λ (held : Held). length held.levels) c.self.view_is, c.self.invariant.few);
      bare = subst (λ held. IsBareIn held c.self.inside.bare) (c.self.view_is ∙ sym (same c)) c.self.invariant.bare;
    }

pub returns : goal.returns
returns c = same c
