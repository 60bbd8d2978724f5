use Rattle.std.proofs.Common.{◌≡◌, ◌-◌, ◌≤◌, ℕ, length, map, take, sym, ap, ◌∙◌, arith, take_all}
use borrow.Rule.Slice.PartMut.{put_mid, same_len_mid}
use Rattle.log_levels.specs.Maps.{map_after, value_at}
use Rattle.log_levels.proofs.ManyLemmas.{values-more}
use Rattle.log_levels.proofs.log_map.LogMap.get_many.Goals as goal

pub loop-from-preserved : goal.loop-from-preserved
loop-from-preserved c =
    let keys = c.args.keys.now in let values = c.loop-from.values in
    let from = c.loop-from.from in let end = c.min-end.result in let block = c.get_block.new.values in
    let up : from ≤ end = omega (arith, c.min-end.ensures, c.loop-from-test.true) in
    let inside : end ≤ length keys = omega (arith, c.min-end.ensures) in
    record {
      count = same_len_mid from (end - from) values block c.get_block.auto.values ∙ c.loop-from.invariant.count;
      inside = inside;
      values = λ updates stands. values-more (value_at (map_after updates)) keys values block from end up inside
          c.loop-from.invariant.count
          (c.loop-from.invariant.values updates stands) (c.get_block.ensures updates stands);
    }

pub returns : goal.returns
returns c = λ updates stands.
    let keys = c.args.keys.now in let values = c.loop-from.values in let from = c.loop-from.from in
    sym (take_all from values (omega (arith, c.loop-from.invariant.count, c.loop-from-test.false)))
    ∙ c.loop-from.invariant.values updates stands
    ∙ ap (map (value_at (map_after updates))) (take_all from keys (omega (arith, c.loop-from-test.false)))
