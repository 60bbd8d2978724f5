use Rattle.std.proofs.Common.{◌≡◌, ◌+◌, slice_set, subst, sym, ap, ◌∙◌, arith}
use Rattle.std.proofs.lemmas.List.{length-set}
use Rattle.log_levels.specs.Maps.{map_after, pairs_between}
use Rattle.log_levels.specs.Accepted.{entries_of}
use Rattle.log_levels.specs.Kept.{IsBareIn, IsLeft}
use Rattle.log_levels.proofs.BareLemmas.{range-bare}
use Rattle.log_levels.proofs.MapLemmas.{count-pairs}
use Rattle.log_levels.proofs.RangeLemmas.{IsWritten, written-none, written-more, written-full, written-out}
use Rattle.log_levels.proofs.WalkLemmas.{pairs-found, pairs-past, pairs-none}
use Rattle.log_levels.proofs.log_map.LogMap.range.Goals as goal

pub loop-count-init : goal.loop-count-init
loop-count-init c = record {
  at = subst (IsLeft c.args.self.now c.walk-walk.result) (sym c.from-low.ensures) c.walk-walk.ensures;
  few = omega (arith, c.from-low.ensures, c.behind-start.type_inv);
  within = omega arith;
  written = λ updates stands.
      let bare = subst (λ held. IsBareIn held c.self.inside.bare) c.self.view_is c.self.invariant.bare in
      let pairs = pairs_between (map_after updates) c.args.from c.args.to in
      let same = range-bare updates c.args.from c.behind-start.result c.args.to c.behind-start.ensures.above
      (λ key above below. bare (entries_of updates) key stands (c.behind-start.ensures.bare key above below)) in
      subst (λ left. IsWritten pairs left c.args.pairs.now c.args.pairs.now 0)
      (same ∙ ap (λ k. pairs_between (map_after updates) k c.args.to) (sym c.from-low.ensures))
      (written-none pairs c.args.pairs.now);
}

pub returns-in_default-clause-count : goal.returns-in_default-clause-count
returns-in_default-clause-count c = λ updates stands.
    let pairs = pairs_between (map_after updates) c.args.from c.args.to in
    let left = pairs_between (map_after updates) c.loop-count.low c.args.to in
    let none = pairs-none updates c.loop-count.low c.args.to (c.in_default.ensures.live (entries_of updates) stands) in
    omega (
      arith,
      written-out pairs left c.loop-count.pairs c.args.pairs.now c.loop-count.count
          (c.loop-count.invariant.written updates stands) none,
      count-pairs (map_after updates) c.args.from c.args.to,
    )

pub returns-then-key-to-clause-count : goal.returns-then-key-to-clause-count
returns-then-key-to-clause-count c = λ updates stands.
    let pairs = pairs_between (map_after updates) c.args.from c.args.to in
    let left = pairs_between (map_after updates) c.loop-count.low c.args.to in
    let none = pairs-past updates c.loop-count.low c.args.to c.in-Some.key c.in-Some.value
    (c.in-Some.ensures.live (entries_of updates) stands) c.if-key-to.true in
    omega (
      arith,
      written-out pairs left c.loop-count.pairs c.args.pairs.now c.loop-count.count
          (c.loop-count.invariant.written updates stands) none,
      count-pairs (map_after updates) c.args.from c.args.to,
    )

pub loop-count-preserved : goal.loop-count-preserved
loop-count-preserved c =
    let same : c.from-low-in-loop-count.result ≡ c.in-Some.key = c.from-low-in-loop-count.ensures in
    record {
      at = subst (λ k. IsLeft c.args.self.now c.next_pair.new.walk (k + 1)) (sym same) c.in-Some.ensures.left;
      few = omega arith;
      within = omega (arith, length-set c.loop-count.pairs c.loop-count.count (c.in-Some.key, c.in-Some.value));
      written = λ updates stands.
          let pairs = pairs_between (map_after updates) c.args.from c.args.to in
          let left = pairs_between (map_after updates) c.loop-count.low c.args.to in
          let later = pairs_between (map_after updates) (c.in-Some.key + 1) c.args.to in
          let next = pairs-found updates c.loop-count.low c.args.to c.in-Some.key c.in-Some.value
          (c.in-Some.ensures.live (entries_of updates) stands) c.if-key-to.false in
          let more = written-more pairs left later c.loop-count.pairs c.args.pairs.now c.loop-count.count
          (c.in-Some.key, c.in-Some.value) (c.loop-count.invariant.written updates stands) (omega arith) next in
          subst (λ k. IsWritten pairs (pairs_between (map_after updates) (k + 1) c.args.to)
          (slice_set c.loop-count.pairs c.loop-count.count (c.in-Some.key, c.in-Some.value)) c.args.pairs.now
          (c.loop-count.count + 1))
          (sym same) more;
    }

pub returns-clause-count : goal.returns-clause-count
returns-clause-count c = λ updates stands.
    let pairs = pairs_between (map_after updates) c.args.from c.args.to in
    let left = pairs_between (map_after updates) c.loop-count.low c.args.to in
    omega (
      arith,
      written-full pairs left c.loop-count.pairs c.args.pairs.now c.loop-count.count
          (c.loop-count.invariant.written updates stands) (omega arith),
      count-pairs (map_after updates) c.args.from c.args.to,
    )
