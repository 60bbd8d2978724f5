use Rattle.std.proofs.Common.{◌≡◌, ◌+◌, Some, slice_set, subst, sym, ap, ◌∙◌}
use Rattle.log_levels.specs.Shapes.{level_of}
use Rattle.log_levels.proofs.DescentLemmas.{AreMoved, moved-all, moved-more, moved-none, place-left}
use Rattle.log_levels.proofs.DescentLemmas.{taken-few, taken-less}
use Rattle.log_levels.proofs.log_map.LogMap.places_behind.Goals as goal

pub loop-rest-init : goal.loop-rest-init
loop-rest-init c = record {
  rest = record {
    within = c.occupied-rest.ensures.within;
    few = c.occupied-rest.ensures.few;
    taken = c.occupied-rest.ensures.taken;
  };
  moved = moved-none c.args.self.now c.places-places.result c.occupied-rest.result
      (c.args.key + 1) c.places-places.ensures.count c.occupied-rest.ensures.free;
}

pub occupied_level-requires : goal.occupied_level-requires
occupied_level-requires c =
    c.loop-rest.invariant.rest.taken c.lowest_and_rest-i.result.0 c.lowest_and_rest-i.ensures.set

pub place_behind-requires-clause-place : goal.place_behind-requires-clause-place
place_behind-requires-clause-place c =
    let t = c.lowest_and_rest-i.result.0 in
    let is : level_of c.args.self.now t ≡ Some c.entries.result.now =
    c.occupied_level.ensures ∙ ap Some (sym c.entries.ensures.entries) in
    place-left c.args.self.now c.places-places.result c.loop-rest.places c.loop-rest.rest t (c.args.key + 1)
    c.args.key c.entries.result.now c.loop-rest.invariant.moved c.places-places.ensures
    c.lowest_and_rest-i.ensures.set is

pub loop-rest-preserved : goal.loop-rest-preserved
loop-rest-preserved c =
    let t = c.lowest_and_rest-i.result.0 in
    let bits = c.lowest_and_rest-i.ensures in
    let is : level_of c.args.self.now t ≡ Some c.entries.result.now =
    c.occupied_level.ensures ∙ ap Some (sym c.entries.ensures.entries) in
    record {
      rest = taken-less c.args.self.now c.loop-rest.rest t c.lowest_and_rest-i.result.1
          c.loop-rest.invariant.rest bits.rest bits.less;
      moved = subst (λ rest. AreMoved c.args.self.now c.places-places.result
          (slice_set c.loop-rest.places t c.place_behind.result) rest (c.args.key + 1)) (sym bits.rest)
          (moved-more c.args.self.now c.places-places.result c.loop-rest.places c.loop-rest.rest t (c.args.key + 1)
          c.place_behind.result c.entries.result.now c.loop-rest.invariant.moved bits.set bits.lowest
          (taken-few c.args.self.now c.loop-rest.rest t c.loop-rest.invariant.rest bits.set) is
          c.place_behind.ensures);
    }

pub returns : goal.returns
returns c = moved-all c.args.self.now c.places-places.result
    c.loop-rest.places c.loop-rest.rest (c.args.key + 1) c.loop-rest.invariant.moved c.loop-rest-test.false
