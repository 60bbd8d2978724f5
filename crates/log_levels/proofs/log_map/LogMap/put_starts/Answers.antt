-- A level's number is below 26.
use Rattle.std.proofs.Common.{length, arith}
use Rattle.log_levels.proofs.OccupiedLemmas.{bit-within}
use Rattle.log_levels.proofs.log_map.LogMap.put_starts.Goals as goal

pub offset_bounds-starts-i : goal.offset_bounds-starts-i
offset_bounds-starts-i c =
    omega (
      arith,
      bit-within c.loop-rest.rest (length c.args.self.now.levels)
          c.lowest_and_rest-i.result.0 c.loop-rest.invariant.0 c.lowest_and_rest-i.ensures.set,
    )

pub bounds-starts-i : goal.bounds-starts-i
bounds-starts-i c =
    omega (
      arith,
      bit-within c.loop-rest.rest (length c.args.self.now.levels)
          c.lowest_and_rest-i.result.0 c.loop-rest.invariant.0 c.lowest_and_rest-i.ensures.set,
    )
