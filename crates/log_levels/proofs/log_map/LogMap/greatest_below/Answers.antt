use Rattle.std.proofs.Common.{◌≡◌, List, Some, slice_index, subst, sym, ap, ◌∙◌}
use Rattle.tombstones.specs.declared.entry.Entry.{Entry}
use Rattle.tombstones.specs.Entries.{IsAscending}
use Rattle.map_level.specs.Levels.{last_at}
use Rattle.log_levels.specs.Shapes.{Held, level_of}
use Rattle.log_levels.specs.Kept.{IsGreatestBelow}
use Rattle.log_levels.proofs.DescentLemmas.{IsGreatestOf, greatest-absent, greatest-buffer, greatest-more}
use Rattle.log_levels.proofs.DescentLemmas.{lb-within, taken-less}
use Rattle.log_levels.proofs.HeadLemmas.{level-inside}
use Rattle.log_levels.proofs.log_map.LogMap.greatest_below.Goals as goal

pub loop-rest-init : goal.loop-rest-init
loop-rest-init c = record {
  rest = record {
    within = c.occupied-rest.ensures.within;
    few = c.occupied-rest.ensures.few;
    taken = c.occupied-rest.ensures.taken;
  };
  greatest = greatest-buffer c.args.self.now c.occupied-rest.result c.args.end c.last_below-greatest.result
      c.occupied-rest.ensures.free
      (subst (λ (buffer : List Entry). IsGreatestBelow (last_at buffer) c.args.end c.last_below-greatest.result)
      (c.deref.ensures.value ∙ ap (λ (held : Held). held.buffer) c.self.view_is) c.last_below-greatest.ensures);
}

pub occupied_level-requires : goal.occupied_level-requires
occupied_level-requires c =
    c.loop-rest.invariant.rest.taken c.lowest_and_rest-i.result.0 c.lowest_and_rest-i.ensures.set

pub entry_before-before-requires-clause-within : goal.entry_before-before-requires-clause-within
entry_before-before-requires-clause-within c =
    let t = c.lowest_and_rest-i.result.0 in
    let is : level_of c.args.self.now t ≡ Some c.entries.result.now =
    c.occupied_level.ensures ∙ ap Some (sym c.entries.ensures.entries) in
    lb-within c.entries.result.now c.args.end (slice_index c.args.places.now t)
    (subst IsAscending (sym c.entries.ensures.entries) c.entries.ensures.ascending)
    (c.requires.each t c.entries.result.now (level-inside c.args.self.now t c.entries.result.now is) is)

pub loop-rest-preserved : goal.loop-rest-preserved
loop-rest-preserved c =
    let t = c.lowest_and_rest-i.result.0 in
    let bits = c.lowest_and_rest-i.ensures in
    let is : level_of c.args.self.now t ≡ Some c.entries.result.now =
    c.occupied_level.ensures ∙ ap Some (sym c.entries.ensures.entries) in
    record {
      rest = taken-less c.args.self.now c.loop-rest.rest t c.lowest_and_rest-i.result.1
          c.loop-rest.invariant.rest bits.rest bits.less;
      greatest = subst (λ rest. IsGreatestOf c.args.self.now rest c.args.end c.greater-greatest.result)
          (sym bits.rest)
          (greatest-more c.args.self.now c.loop-rest.rest t c.args.end c.loop-rest.greatest c.entry_before-before.result
          c.greater-greatest.result c.entries.result.now c.loop-rest.invariant.greatest
          (c.entry_before-before.ensures c.args.end
          (c.requires.each t c.entries.result.now (level-inside c.args.self.now t c.entries.result.now is) is))
          (record {
            above_one = c.greater-greatest.ensures.one;
            above_other = c.greater-greatest.ensures.other;
            either = c.greater-greatest.ensures.either;
          })
          bits.lowest is);
    }

pub returns : goal.returns
returns c = record {
  below = c.loop-rest.invariant.greatest.below;
  absent = λ key less above. greatest-absent c.args.self.now c.loop-rest.rest c.args.end key c.loop-rest.greatest
      c.loop-rest.invariant.greatest c.loop-rest-test.false less above;
  last = c.loop-rest.invariant.greatest.last;
}
