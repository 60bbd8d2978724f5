use Rattle.std.proofs.Common.{◌+◌, ◌-◌, ◌*◌, ◌++◌, List, length, take, drop, subst, ap, ◌∙◌, arith, refl}
use Rattle.std.proofs.lemmas.List.{take_rest}
use Rattle.tombstones.specs.declared.entry.Entry.{Entry}
use Rattle.log_levels.specs.Shapes.{Held, IsCutOf}
use Rattle.log_levels.specs.Kept.{IsBareIn, held_of}
use Rattle.log_levels.proofs.BareLemmas.{bare-more}
use Rattle.log_levels.proofs.HeldLemmas.{length-levels_of, capacity_is}
use Rattle.log_levels.proofs.GrowthLemmas.{grown}
use Rattle.log_levels.proofs.log_map.LogMap.with_entries.Goals as goal
use Rattle.log_levels.proofs.log_map.LogMap.with_entries.Given.{Over}

map : (g : Over) → goal.In_ok-extend_from_slice g → Held
map g c = held_of
    (c.self.inside.accepted + length c.args.new.now) c.extend_from_slice.new.self.items c.in_ok-stored.stored.items

is_cut : (g : Over) (c : goal.In_ok-extend_from_slice g) (entries : List Entry) →
    IsCutOf c.args.self.now entries → IsCutOf (map g c) (entries ++ c.args.new.now)
unfolding map
is_cut g c entries cut =
    let levels = c.blocks_with-blocks.ensures.levels in
    let capacity = capacity_is (length c.args.self.now.levels) _ refl levels in
    let accepted = ap (λ (held : Held). held.accepted) c.self.view_is in
    let added = c.in_ok-extend_from_slice.ensures.items in
    let none = c.in_ok-buffer.ensures.items in
    let start = c.blocks_with-blocks.result * 64 - c.self.inside.accepted in
    let buffer = added
    ∙ ap (λ (list : List Entry). list ++ take (length c.args.new.now - start) (drop start c.args.new.now)) none
    ∙ take_rest c.args.new.now start ∙ ap (λ k. drop (c.blocks_with-blocks.result * 64 - k) c.args.new.now) accepted in
    grown c.args.self.now (map g c) entries c.args.new.now c.blocks_with-blocks.result cut c.requires.flush
    (omega (arith, c.requires.room, capacity.1)) c.blocks_with-blocks.ensures.blocks
    (omega (arith, accepted)) buffer (length-levels_of c.in_ok-stored.stored.items ∙ c.in_ok-stored.ensures.count)
    (λ i inside. c.in_ok-stored.ensures.levels i inside entries cut)

pub invariant_of-result : goal.invariant_of-result
unfolding map
invariant_of-result g c =
    let (entries, cut) = c.blocks_with-blocks.ensures.stands in
    let count = length-levels_of c.in_ok-stored.stored.items ∙ c.in_ok-stored.ensures.count in
    let was = ap (λ (held : Held). length held.levels) c.self.view_is in
    record {
      cut = (entries ++ c.args.new.now, is_cut g c entries cut);
      roomy = omega (arith, c.in_ok-extend_from_slice.ensures.capacity, c.in_ok-buffer.ensures.exact);
      some = omega (arith, count, was, c.self.invariant.some);
      few = omega (arith, count, was, c.self.invariant.few);
      bare = bare-more c.args.self.now
          (map g c) c.self.inside.bare c.without_puts-bare.result entries c.args.new.now cut (is_cut g c entries cut)
          (subst (λ held. IsBareIn held c.self.inside.bare) c.self.view_is c.self.invariant.bare)
          c.without_puts-bare.ensures;
    }

pub returns-clause-cut : goal.returns-clause-cut
unfolding map
returns-clause-cut g c = λ entries cut. is_cut g c entries cut
