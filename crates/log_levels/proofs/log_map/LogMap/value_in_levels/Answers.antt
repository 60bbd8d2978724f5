use Rattle.std.proofs.Common.{ap, sym, ◌∙◌, subst}
use Rattle.std.specs.Int.{bit_at}
use Rattle.tombstones.specs.Entries.{entry_at}
use Rattle.log_levels.specs.Kept.{entry_in}
use Rattle.log_levels.proofs.OccupiedLemmas.{IsReached, bit-still, reached-start, reached-found, reached-missed}
use Rattle.log_levels.proofs.log_map.LogMap.value_in_levels.Goals as goal

pub loop-rest-init : goal.loop-rest-init
loop-rest-init c = record {
  taken = c.occupied-rest.ensures.taken;
  reached = λ entries cut.
      subst (λ rest. IsReached entries c.args.key rest)
      (sym c.occupied-rest.ensures.bits) (reached-start c.args.self.now entries c.args.key cut c.requires);
}

pub occupied_level-requires : goal.occupied_level-requires
occupied_level-requires c = c.loop-rest.invariant.taken c.lowest_and_rest-i.result.0 c.lowest_and_rest-i.ensures.set

pub returns-in-Some : goal.returns-in-Some
returns-in-Some c = λ entries cut.
    let is = c.lowest_and_rest-i.ensures in
    reached-found c.args.self.now entries c.args.key c.loop-rest.rest c.lowest_and_rest-i.result.0
    c.in-Some.entry.now cut (c.loop-rest.invariant.reached entries cut) is.set is.lowest
    (c.in-Some.ensures ∙ ap (entry_at c.occupied_level.result.now) c.of-hashed.ensures
    ∙ ap (λ level. entry_in level c.args.key) (sym c.occupied_level.ensures))

pub loop-rest-preserved : goal.loop-rest-preserved
loop-rest-preserved c =
    let is = c.lowest_and_rest-i.ensures in
    record {
      taken = λ i set.
          let (above, still) =
          bit-still c.loop-rest.rest c.lowest_and_rest-i.result.0 i (ap (λ n. bit_at n i) (sym is.rest) ∙ set) in
          c.loop-rest.invariant.taken i still;
      reached = λ entries cut. subst (λ rest. IsReached entries c.args.key rest) (sym is.rest)
          (reached-missed c.args.self.now entries c.args.key c.loop-rest.rest c.lowest_and_rest-i.result.0 cut
          (c.loop-rest.invariant.reached entries cut) is.set is.lowest
          (c.in_default.ensures ∙ ap (entry_at c.occupied_level.result.now) c.of-hashed.ensures
          ∙ ap (λ level. entry_in level c.args.key) (sym c.occupied_level.ensures)));
    }
