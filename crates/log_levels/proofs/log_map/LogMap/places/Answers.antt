use Rattle.std.proofs.Common.{◌≡◌, List, length, slice_index, Some, None, sym, ap, ◌∙◌, inl, inr, arith}
use Rattle.std.specs.Int.{bit_at}
use Rattle.std.specs.Prelude.{slice_set}
use Rattle.std.proofs.lemmas.List.{get_or-set_same, get_or-set_other, length-set}
use Rattle.tombstones.specs.declared.entry.Entry.{Entry}
use Rattle.window_search.specs.Searches.{lb}
use Rattle.map_level.specs.Levels.{level_keys}
use Rattle.log_levels.specs.Shapes.{level_of}
use Rattle.log_levels.proofs.OccupiedLemmas.{bit-within, bit-behind}
use Rattle.log_levels.proofs.log_map.LogMap.places.Goals as goal

pub loop-rest-preserved-in-Some : goal.loop-rest-preserved-in-Some
loop-rest-preserved-in-Some c =
    let t = c.lowest_and_rest-i.result.0 in
    let behind = c.lowest_and_rest-i.ensures.rest in
    let within = bit-within c.loop-rest.rest
    (length c.args.self.now.levels) t c.loop-rest.invariant.within c.lowest_and_rest-i.ensures.set in
    record {
      within = omega (arith, c.lowest_and_rest-i.ensures.less, c.loop-rest.invariant.within);
      room = omega (arith, length-set c.loop-rest.places t c.place.result, c.loop-rest.invariant.room);
      done = λ i level inside clear is.
          elim (bit-behind c.loop-rest.rest t i c.lowest_and_rest-i.ensures.lowest
          (ap (λ n. bit_at n i) (sym behind) ∙ clear)) [
            | inl earlier ↦
                get_or-set_other c.loop-rest.places t i c.place.result 0
                (λ same. absurd
                (omega (arith, ap (λ k. bit_at c.loop-rest.rest k) same, c.lowest_and_rest-i.ensures.set, earlier)))
                ∙ c.loop-rest.invariant.done i level inside earlier is
            | inr at ↦
                let both : Some c.in-Some.level.now ≡ Some level = c.in-Some.ensures
                ∙ ap (level_of c.args.self.now) (sym at) ∙ is in
                let one : c.in-Some.level.now ≡ level = cc in
                ap (λ k. slice_index (slice_set c.loop-rest.places t c.place.result) k) at
                ∙ get_or-set_same c.loop-rest.places t c.place.result 0
                (omega (arith, within, c.loop-rest.invariant.room))
                ∙ c.place.ensures.place ∙ ap (λ (l : List Entry). lb (level_keys l) c.args.key) one
          ];
    }

pub loop-rest-preserved : goal.loop-rest-preserved
loop-rest-preserved c =
    let t = c.lowest_and_rest-i.result.0 in
    let behind = c.lowest_and_rest-i.ensures.rest in
    record {
      within = omega (arith, c.lowest_and_rest-i.ensures.less, c.loop-rest.invariant.within);
      room = c.loop-rest.invariant.room;
      done = λ i level inside clear is.
          elim (bit-behind c.loop-rest.rest t i c.lowest_and_rest-i.ensures.lowest
          (ap (λ n. bit_at n i) (sym behind) ∙ clear)) [
            | inl earlier ↦ c.loop-rest.invariant.done i level inside earlier is
            | inr at ↦ let apart : None ≡ Some level = c.in_default.ensures
                ∙ ap (level_of c.args.self.now) (sym at) ∙ is in
                cc
          ];
    }
