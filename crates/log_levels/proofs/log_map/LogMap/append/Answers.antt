use Rattle.std.proofs.Common.{◌++◌, subst, arith}
use Rattle.log_levels.specs.Shapes.{IsCutOf}
use Rattle.log_levels.specs.Kept.{IsBareIn, held_of}
use Rattle.log_levels.proofs.BareLemmas.{bare-more}
use Rattle.log_levels.proofs.GrowthLemmas.{buffered-kept}
use Rattle.log_levels.proofs.log_map.LogMap.append.Goals as goal

pub invariant_of-self-2 : goal.invariant_of-self-2
invariant_of-self-2 g c =
    let (entries, cut) = c.self.invariant.cut in
    let inside = held_of c.self.inside.accepted c.self.inside.buffer.items c.self.inside.stored.items in
    let was : IsCutOf c.args.self.now entries = subst (λ held. IsCutOf held entries) c.self.view_is cut in
    let more = buffered-kept inside c.args.self.now
    c.args.new.now c.push_each.new.into.items entries c.self.view_is c.self.invariant.few c.requires.room
    (omega (arith, c.if-self-after.false)) c.push_each.ensures.items was in
    record {
      cut = (entries ++ c.args.new.now, more);
      roomy = omega (arith, c.push_each.ensures.capacity, c.self.invariant.roomy);
      some = c.self.invariant.some;
      few = c.self.invariant.few;
      bare = bare-more
          c.args.self.now _ c.self.inside.bare c.without_puts-self-inside.result entries c.args.new.now was more
          (subst (λ held. IsBareIn held c.self.inside.bare) c.self.view_is c.self.invariant.bare)
          c.without_puts-self-inside.ensures;
    }

pub returns-clause-cut : goal.returns-clause-cut
returns-clause-cut g c = λ entries cut.
    let inside = held_of c.self.inside.accepted c.self.inside.buffer.items c.self.inside.stored.items in
    buffered-kept inside c.args.self.now
    c.args.new.now c.push_each.new.into.items entries c.self.view_is c.self.invariant.few c.requires.room
    (omega (arith, c.if-self-after.false)) c.push_each.ensures.items cut
