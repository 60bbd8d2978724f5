use Rattle.std.proofs.Common.{◌-◌, ◌≤◌, length, map, unwrap_or, sym, ap, ◌∙◌, arith, take_all}
use borrow.Rule.Slice.PartMut.{same_len_mid}
use Rattle.log_levels.specs.Maps.{map_after, value_at}
use Rattle.kuldebiq.specs.Changes.{one_if_some}
use Rattle.kuldebiq.proofs.ManyValues.{said-more}
use Rattle.kuldebiq.proofs.get_many.write_values.Goals as goal

pub loop-from-preserved : goal.loop-from-preserved
loop-from-preserved c =
    let keys = c.args.keys.now in let values = c.loop-from.values in let present = c.loop-from.present in
    let from = c.loop-from.from in let end = c.min-end.result in
    let inv = c.loop-from.invariant in let block = c.write_block in
    let up : from ≤ end = omega (arith, c.min-end.ensures, c.loop-from-test.true) in
    let inside : end ≤ length keys = omega (arith, c.min-end.ensures) in
    record {
      count = same_len_mid from (end - from) values block.new.values block.auto.values ∙ inv.count;
      flags = same_len_mid from (end - from) present block.new.present block.auto.present ∙ inv.flags;
      inside = inside;
      values = λ updates stands. said-more (λ key. unwrap_or (value_at (map_after updates) key) 0) keys values
          block.new.values from end up inside inv.count (inv.values updates stands)
          (block.ensures.values updates stands);
      present = λ updates stands. said-more (λ key. one_if_some (value_at (map_after updates) key)) keys present
          block.new.present from end up inside inv.flags (inv.present updates stands)
          (block.ensures.present updates stands);
    }

pub returns-clause-values : goal.returns-clause-values
returns-clause-values c = λ updates stands.
    let keys = c.args.keys.now in let values = c.loop-from.values in let from = c.loop-from.from in
    sym (take_all from values (omega (arith, c.loop-from.invariant.count, c.loop-from-test.false)))
    ∙ c.loop-from.invariant.values updates stands
    ∙ ap (map (λ key. unwrap_or (value_at (map_after updates) key) 0))
    (take_all from keys (omega (arith, c.loop-from-test.false)))

pub returns-clause-present : goal.returns-clause-present
returns-clause-present c = λ updates stands.
    let keys = c.args.keys.now in let present = c.loop-from.present in let from = c.loop-from.from in
    sym (take_all from present (omega (arith, c.loop-from.invariant.flags, c.loop-from-test.false)))
    ∙ c.loop-from.invariant.present updates stands
    ∙ ap (map (λ key. one_if_some (value_at (map_after updates) key)))
    (take_all from keys (omega (arith, c.loop-from-test.false)))
