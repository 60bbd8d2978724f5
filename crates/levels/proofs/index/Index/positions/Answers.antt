-- A block more.
use Rattle.std.proofs.Common.{arith}
use Rattle.window_search.specs.Searches.{lb}
use Rattle.key_search.proofs.CallerLemmas.{split_more, split_left}
use Rattle.levels.proofs.index.Index.positions.Goals as goal

pub loop-rest-preserved : goal.loop-rest-preserved
loop-rest-preserved c =
    let f = lb c.args.self.now.keys in
    let inv = c.loop-rest.invariant in
    let rest = c.loop-rest.rest.now in
    let split = c.split_at in
    let pushed = c.push_block in
    record {
      some = inv.some;
      before = split_more f 16 c.args.qs.now rest _ _ c.args.into.now.items
          c.loop-rest.into.items _ split.ensures.front split.ensures.back pushed.ensures.positions inv.before;
      room = omega (
        arith,
        inv.room,
        pushed.ensures.capacity,
        c.loop-rest.into.ok.0,
        pushed.new.into.ok.0,
        split_left
            f 16 rest _ _ c.loop-rest.into.items _ split.ensures.front split.ensures.back pushed.ensures.positions,
      );
      capacity = omega (arith, inv.capacity, pushed.ensures.capacity);
    }
