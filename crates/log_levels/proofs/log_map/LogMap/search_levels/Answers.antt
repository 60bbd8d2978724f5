use Rattle.std.proofs.Common.{◌≡◌, ◌+◌, ◌/◌, ◌<◌, ℕ, List, None, length}
use Rattle.std.proofs.Common.{map, slice_index, slice_index_or, subst, sym, ap, ◌∙◌, arith}
use Rattle.std.proofs.lemmas.List.{ext_get_or, get_or-map, length-map}
use Rattle.std.specs.Int.{bit_at}
use Rattle.tombstones.specs.Entries.{entry_at}
use Rattle.map_level.specs.Levels.{last_at}
use Rattle.log_levels.specs.declared.many.Search.{Search}
use Rattle.log_levels.specs.declared.many.Search.TheVariants.{Open}
use Rattle.log_levels.specs.Shapes.{from_bit, level_of}
use Rattle.log_levels.specs.Kept.{value_of, entry_in, searched, found_by}
use Rattle.log_levels.proofs.ManyLemmas.{IsSearchedTo, searched-start, searched-next, searched-end}
use Rattle.log_levels.proofs.OccupiedLemmas.{bit-still}
use Rattle.log_levels.proofs.log_map.LogMap.search_levels.Goals as goal

pub loop-rest-init : goal.loop-rest-init
loop-rest-init c =
    let held = c.args.self.now in let keys = c.args.keys.now in
    let found = λ (key : ℕ). searched (last_at held.buffer key) Open in
    record {
      count = ap (λ (l : List Search). length l) c.requires ∙ length-map {B = Search} keys found;
      taken = c.occupied-rest.ensures.taken;
      searched = λ entries k cut inside.
          let read : slice_index_or c.args.searches.now k Open ≡ found (slice_index keys k) =
          ap (λ (l : List Search). slice_index_or l k Open) c.requires ∙ get_or-map found keys k 0 Open inside in
          subst (λ rest. IsSearchedTo entries (slice_index keys k) rest (slice_index_or c.args.searches.now k Open))
          (sym c.occupied-rest.ensures.bits)
          (subst (λ search. IsSearchedTo entries (slice_index keys k) (held.accepted / 64) search) (sym read)
          (searched-start held entries (slice_index keys k) cut));
    }

pub occupied_level-level-requires : goal.occupied_level-level-requires
occupied_level-level-requires c =
    c.loop-rest.invariant.taken c.lowest_and_rest-i.result.0 c.lowest_and_rest-i.ensures.set

pub finish-requires-clause-missed : goal.finish-requires-clause-missed
finish-requires-clause-missed c = λ k inside missed. (c.begin.ensures.begun k inside).missed missed

pub loop-rest-preserved : goal.loop-rest-preserved
loop-rest-preserved c =
    let held = c.args.self.now in let keys = c.args.keys.now in
    let is = c.lowest_and_rest-i.ensures in let i = c.lowest_and_rest-i.result.0 in
    record {
      count = c.finish.ensures.length ∙ c.begin.ensures.length ∙ c.loop-rest.invariant.count;
      taken = λ j set.
          let (above, still) = bit-still c.loop-rest.rest i j (ap (λ n. bit_at n j) (sym is.rest) ∙ set) in
          c.loop-rest.invariant.taken j still;
      searched = λ entries k cut inside.
          let key = slice_index keys k in let old = slice_index_or c.loop-rest.searches k Open in
          let step : slice_index_or c.finish.new.searches k Open ≡ searched (entry_in (level_of held i) key) old =
          c.finish.ensures.searched k inside ∙ (c.begin.ensures.begun k inside).same
          ∙ ap (λ level. searched (entry_in level key) old) (sym c.occupied_level-level.ensures) in
          subst (λ rest. IsSearchedTo entries key rest (slice_index_or c.finish.new.searches k Open)) (sym is.rest)
          (subst (λ search. IsSearchedTo entries key (from_bit (i + 1) c.loop-rest.rest) search) (sym step)
          (searched-next held entries key c.loop-rest.rest i old cut
          (c.loop-rest.invariant.searched entries k cut inside) is.set is.lowest));
    }

pub returns : goal.returns
returns c = λ entries cut.
    let keys = c.args.keys.now in let searches = c.loop-rest.searches in
    let value = λ (key : ℕ). value_of (last_at entries key) in
    ext_get_or None (map found_by searches) (map value keys)
    (length-map searches found_by ∙ c.loop-rest.invariant.count ∙ sym (length-map keys value))
    (λ k inside.
    let within : k < length searches = omega (arith, inside, length-map searches found_by) in
    let known : k < length keys = omega (arith, within, c.loop-rest.invariant.count) in
    get_or-map found_by searches k Open None within
    ∙ searched-end entries (slice_index keys k) (slice_index_or searches k Open)
    (subst (λ rest. IsSearchedTo entries (slice_index keys k) rest (slice_index_or searches k Open))
    c.loop-rest-test.false (c.loop-rest.invariant.searched entries k cut known))
    ∙ sym (get_or-map value keys k 0 None known))
