use Rattle.std.proofs.Common.{◌≡◌, ◌+◌, ℕ, List, length, subst, sym, ap, arith}
use Rattle.log_levels.specs.Maps.{map_after, count_between}
use Rattle.log_levels.specs.Accepted.{entries_of}
use Rattle.log_levels.specs.Kept.{IsBareIn, IsLeft}
use Rattle.log_levels.proofs.BareLemmas.{range-bare}
use Rattle.log_levels.proofs.MapLemmas.{count-few, count-pairs}
use Rattle.log_levels.proofs.WalkLemmas.{count-found, count-past, count-none}
use Rattle.log_levels.proofs.log_map.LogMap.count.Goals as goal

pub loop-key-init : goal.loop-key-init
loop-key-init c = record {
  at = subst (IsLeft c.args.self.now c.walk-walk.result) (sym c.from-from.ensures) c.walk-walk.ensures;
  few = omega (arith, c.from-from.ensures, c.behind-start.type_inv);
  sum = λ updates stands.
      let bare = subst (λ held. IsBareIn held c.self.inside.bare) c.self.view_is c.self.invariant.bare in
      let same = range-bare updates c.args.low c.behind-start.result c.args.high c.behind-start.ensures.above
      (λ key above below. bare (entries_of updates) key stands (c.behind-start.ensures.bare key above below)) in
      omega (
        arith,
        count-pairs (map_after updates) c.args.low c.args.high,
        count-pairs (map_after updates) c.behind-start.result c.args.high,
        ap (λ (l : List (ℕ × ℕ)). length l) same,
        ap (λ k. count_between (map_after updates) k c.args.high) c.from-from.ensures,
      );
}

pub returns-then-key-high : goal.returns-then-key-high
returns-then-key-high c = λ updates stands.
    let past = count-past updates c.loop-key.from c.args.high c.in-Some.key c.in-Some.field-0-1
    (c.in-Some.ensures.live (entries_of updates) stands) c.if-key-high.true in
    omega (arith, c.loop-key.invariant.sum updates stands)

pub overflow_add-count : goal.overflow_add-count
overflow_add-count c =
    let (updates, stands) = c.accepted.ensures.stands in
    let found = count-found updates c.loop-key.from c.args.high c.in-Some.key c.in-Some.field-0-1
    (c.in-Some.ensures.live (entries_of updates) stands) c.if-key-high.false in
    omega (
      arith,
      c.loop-key.invariant.sum updates stands,
      count-few updates c.args.low c.args.high,
      stands.accepted,
      c.accepted.ensures.count,
      c.accepted.type_inv,
    )

pub loop-key-preserved : goal.loop-key-preserved
loop-key-preserved c =
    let same : c.from-from-in-Some.result ≡ c.in-Some.key = c.from-from-in-Some.ensures in
    record {
      at = subst (λ k. IsLeft c.args.self.now c.next_pair.new.walk (k + 1)) (sym same) c.in-Some.ensures.left;
      few = omega arith;
      sum = λ updates stands.
          let found = count-found updates c.loop-key.from c.args.high c.in-Some.key c.in-Some.field-0-1
          (c.in-Some.ensures.live (entries_of updates) stands) c.if-key-high.false in
          let next = ap (λ k. count_between (map_after updates) (k + 1) c.args.high) same in
          omega (arith, c.loop-key.invariant.sum updates stands);
    }

pub returns : goal.returns
returns c = λ updates stands.
    let none = count-none updates c.loop-key.from c.args.high (c.in_default.ensures.live (entries_of updates) stands) in
    omega (arith, c.loop-key.invariant.sum updates stands)
