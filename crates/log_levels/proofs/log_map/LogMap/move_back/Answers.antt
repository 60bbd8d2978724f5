use Rattle.std.proofs.Common.{◌≡◌, Some, slice_index, slice_set, subst, sym, ap, ◌∙◌, arith}
use Rattle.tombstones.specs.Entries.{IsAscending}
use Rattle.log_levels.specs.Shapes.{level_of}
use Rattle.log_levels.proofs.DescentLemmas.{AreMoved, lb-within, moved-all, moved-more, moved-none, place-left}
use Rattle.log_levels.proofs.DescentLemmas.{taken-few, taken-less}
use Rattle.log_levels.proofs.HeadLemmas.{level-inside}
use Rattle.log_levels.proofs.log_map.LogMap.move_back.Goals as goal

pub loop-rest-init : goal.loop-rest-init
loop-rest-init c =
    let (end, (are, below, none)) = c.requires in
    record {
      rest = record {
        within = c.occupied-rest.ensures.within;
        few = c.occupied-rest.ensures.few;
        taken = c.occupied-rest.ensures.taken;
      };
      moved = moved-none c.args.self.now c.args.places.now
          c.occupied-rest.result c.args.key are.count c.occupied-rest.ensures.free;
    }

pub occupied_level-requires : goal.occupied_level-requires
occupied_level-requires c =
    c.loop-rest.invariant.rest.taken c.lowest_and_rest-i.result.0 c.lowest_and_rest-i.ensures.set

pub place_before-requires-clause-within : goal.place_before-requires-clause-within
place_before-requires-clause-within c =
    let (end, (are, below, none)) = c.requires in
    let t = c.lowest_and_rest-i.result.0 in
    let is : level_of c.args.self.now t ≡ Some c.entries.result.now =
    c.occupied_level.ensures ∙ ap Some (sym c.entries.ensures.entries) in
    lb-within c.entries.result.now end (slice_index c.loop-rest.places t)
    (subst IsAscending (sym c.entries.ensures.entries) c.entries.ensures.ascending)
    (place-left c.args.self.now c.args.places.now c.loop-rest.places c.loop-rest.rest t c.args.key end
    c.entries.result.now c.loop-rest.invariant.moved are c.lowest_and_rest-i.ensures.set is)

pub loop-rest-preserved : goal.loop-rest-preserved
loop-rest-preserved c =
    let (end, (are, below, none)) = c.requires in
    let t = c.lowest_and_rest-i.result.0 in
    let bits = c.lowest_and_rest-i.ensures in
    let is : level_of c.args.self.now t ≡ Some c.entries.result.now =
    c.occupied_level.ensures ∙ ap Some (sym c.entries.ensures.entries) in
    record {
      rest = taken-less c.args.self.now c.loop-rest.rest t c.lowest_and_rest-i.result.1
          c.loop-rest.invariant.rest bits.rest bits.less;
      moved = subst (λ rest. AreMoved c.args.self.now c.args.places.now
          (slice_set c.loop-rest.places t c.place_before.result) rest c.args.key) (sym bits.rest)
          (moved-more c.args.self.now c.args.places.now c.loop-rest.places c.loop-rest.rest t c.args.key
          c.place_before.result c.entries.result.now c.loop-rest.invariant.moved bits.set bits.lowest
          (taken-few c.args.self.now c.loop-rest.rest t c.loop-rest.invariant.rest bits.set) is
          (c.place_before.ensures end
          (place-left c.args.self.now c.args.places.now c.loop-rest.places c.loop-rest.rest t c.args.key end
          c.entries.result.now c.loop-rest.invariant.moved are bits.set is)
          below (λ other above less. (none other above less).levels t c.entries.result.now
          (level-inside c.args.self.now t c.entries.result.now is) is)));
    }

pub returns : goal.returns
returns c = moved-all c.args.self.now c.args.places.now
    c.loop-rest.places c.loop-rest.rest c.args.key c.loop-rest.invariant.moved c.loop-rest-test.false
