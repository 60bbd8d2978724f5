use Rattle.std.proofs.Common.{length, subst, sym, arith}
use Rattle.log_levels.specs.Kept.{AreHeads}
use Rattle.log_levels.proofs.OccupiedLemmas.{bit-within}
use Rattle.log_levels.proofs.HeadLemmas.{heads-begin}
use Rattle.log_levels.proofs.log_map.LogMap.heads.Goals as goal

pub loop-rest-init : goal.loop-rest-init
loop-rest-init c = record {
  within = c.occupied-rest.ensures.within;
  heads = subst (AreHeads c.args.self.now c.args.places.now c.occupied-rest.result) (sym c.new-heads.ensures)
      (heads-begin c.args.self.now
      c.args.places.now c.occupied-rest.result c.occupied-rest.ensures.few c.occupied-rest.ensures.free);
}

pub push_head-requires-clause-low : goal.push_head-requires-clause-low
push_head-requires-clause-low c =
    omega (
      arith,
      bit-within c.loop-rest.rest (length c.args.self.now.levels)
          c.lowest_and_rest-i.result.0 c.loop-rest.invariant.within c.lowest_and_rest-i.ensures.set,
      c.loop-rest.invariant.heads.low,
    )

pub push_head-requires-clause-room : goal.push_head-requires-clause-room
push_head-requires-clause-room c =
    omega (
      arith,
      bit-within c.loop-rest.rest (length c.args.self.now.levels)
          c.lowest_and_rest-i.result.0 c.loop-rest.invariant.within c.lowest_and_rest-i.ensures.set,
      c.loop-rest.invariant.heads.low,
      c.loop-rest.invariant.heads.few c.lowest_and_rest-i.result.0 c.lowest_and_rest-i.ensures.set,
    )

pub loop-rest-preserved : goal.loop-rest-preserved
loop-rest-preserved c = record {
  within = omega (arith, c.lowest_and_rest-i.ensures.less, c.loop-rest.invariant.within);
  heads = subst (λ rest. AreHeads c.args.self.now c.args.places.now rest c.push_head.new.heads.items)
      (sym c.lowest_and_rest-i.ensures.rest)
      (c.push_head.ensures c.loop-rest.rest
      c.lowest_and_rest-i.ensures.lowest c.lowest_and_rest-i.ensures.set c.loop-rest.invariant.heads);
}
