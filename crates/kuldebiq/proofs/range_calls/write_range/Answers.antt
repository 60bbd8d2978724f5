-- Block after block.
use Rattle.std.proofs.Common.{◌≡◌, ◌+◌, ◌-◌, ◌<◌, List, [], length, take, drop, min}
use Rattle.std.proofs.Common.{slice_index_or, sym, ap, ◌∙◌, refl, arith, length-drop}
use Rattle.std.proofs.lemmas.List.{take_rest}
use borrow.Rule.Slice.PartMut.{put_mid, same_len_mid}
use Rattle.log_levels.specs.Maps.{map_after, pairs_between}
use Rattle.log_levels.proofs.MapLemmas.{rises-after, count-pairs}
use Rattle.kuldebiq.specs.declared.map_calls.Pair.{Pair}
use Rattle.kuldebiq.proofs.PairLemmas.{no_pair}
use Rattle.kuldebiq.proofs.Ranges.{filled-next, filled-last, filled-end, last-key, block-filled, block-end}
use Rattle.kuldebiq.proofs.range_calls.write_range.Goals as goal

pub returns-then-found-lt-AT_ONCE-clause-count : goal.returns-then-found-lt-AT_ONCE-clause-count
returns-then-found-lt-AT_ONCE-clause-count c = λ updates stands.
    let now = c.loop-count.room in let count = c.loop-count.count in let found = c.write_block-found.result in
    let block = c.write_block-found.ensures in
    let filled = block-filled (map_after updates) c.args.low c.loop-count.from c.args.high
    count found now c.write_block-found.new.room c.args.room.now (take (length now - count) (drop count now))
    (c.loop-count.invariant.2 updates stands)
    (take_rest now count) (block.count updates stands) (block.pairs updates stands) in
    block-end (map_after updates) c.args.low c.loop-count.from c.args.high
    count found now c.write_block-found.new.room c.args.room.now (take (length now - count) (drop count now))
    filled (take_rest now count)
    (block.count updates stands) c.loop-count.invariant.0 c.loop-count.invariant.1 c.if-found-lt-AT_ONCE.true

pub returns-then-found-lt-AT_ONCE-clause-pairs : goal.returns-then-found-lt-AT_ONCE-clause-pairs
returns-then-found-lt-AT_ONCE-clause-pairs c = λ updates stands.
    let now = c.loop-count.room in let count = c.loop-count.count in
    let block = c.write_block-found.ensures in
    (block-filled (map_after updates) c.args.low c.loop-count.from c.args.high count c.write_block-found.result
    now c.write_block-found.new.room c.args.room.now (take (length now - count) (drop count now))
    (c.loop-count.invariant.2 updates stands)
    (take_rest now count) (block.count updates stands) (block.pairs updates stands)).written

pub returns-then-last-high-clause-count : goal.returns-then-last-high-clause-count
returns-then-last-high-clause-count c = λ updates stands.
    let all = map_after updates in let pairs = pairs_between all c.args.low c.args.high in
    let now = c.loop-count.room in let count = c.loop-count.count in let found = c.write_block-found.result in
    let left = drop found (pairs_between all c.loop-count.from c.args.high) in
    let after = put_mid count (length now - count) now c.write_block-found.new.room in
    let block = c.write_block-found.ensures in
    let filled = block-filled all c.args.low c.loop-count.from c.args.high
    count found now c.write_block-found.new.room c.args.room.now (take (length now - count) (drop count now))
    (c.loop-count.invariant.2 updates stands)
    (take_rest now count) (block.count updates stands) (block.pairs updates stands) in
    let some : 0 < count + found = omega (arith, c.if-found-lt-AT_ONCE.false) in
    let last = filled-last all pairs left after c.args.room.now c.args.low c.args.high
    (count + found) (slice_index_or after (count + found - 1) no_pair).key
    (rises-after updates) refl filled some
    (last-key pairs left after c.args.room.now (count + found) no_pair filled some) c.if-last-high.true in
    filled-end pairs [] after c.args.room.now (count + found) last
    (omega (
      arith,
      block.within,
      ap (λ (l : List Pair). length l) (take_rest now count),
      length-drop count now,
      c.loop-count.invariant.0,
      c.loop-count.invariant.1,
    ))
    (λ none. absurd (omega arith))
    ∙ ap (min (length c.args.room.now)) (sym (count-pairs all c.args.low c.args.high))

pub returns-then-last-high-clause-pairs : goal.returns-then-last-high-clause-pairs
returns-then-last-high-clause-pairs c = λ updates stands.
    let now = c.loop-count.room in let count = c.loop-count.count in
    let block = c.write_block-found.ensures in
    (block-filled (map_after updates) c.args.low c.loop-count.from c.args.high count c.write_block-found.result
    now c.write_block-found.new.room c.args.room.now (take (length now - count) (drop count now))
    (c.loop-count.invariant.2 updates stands)
    (take_rest now count) (block.count updates stands) (block.pairs updates stands)).written

pub loop-count-preserved : goal.loop-count-preserved
loop-count-preserved c =
    let now = c.loop-count.room in let count = c.loop-count.count in let found = c.write_block-found.result in
    let new = c.write_block-found.new.room in
    let after = put_mid count (length now - count) now new in
    let block = c.write_block-found.ensures in
    let same : length after
    ≡ length now = same_len_mid count (length now - count) now new c.write_block-found.auto.room in
    let some : 0 < count + found = omega (arith, c.if-found-lt-AT_ONCE.false) in (
      same ∙ c.loop-count.invariant.0,
      omega (
        arith,
        same,
        block.within,
        ap (λ (l : List Pair). length l) (take_rest now count),
        length-drop count now,
        c.loop-count.invariant.1,
      ),
      λ updates stands.
          let all = map_after updates in let pairs = pairs_between all c.args.low c.args.high in
          let left = drop found (pairs_between all c.loop-count.from c.args.high) in
          let filled = block-filled all c.args.low c.loop-count.from c.args.high count found now new c.args.room.now
          (take (length now - count) (drop count now))
          (c.loop-count.invariant.2 updates stands)
          (take_rest now count) (block.count updates stands) (block.pairs updates stands) in
          filled-next all pairs left after c.args.room.now c.args.low c.args.high
          (count + found) (slice_index_or after (count + found - 1) no_pair).key
          (rises-after updates) refl filled some
          (last-key pairs left after c.args.room.now (count + found) no_pair filled some),
    )

pub returns-clause-count : goal.returns-clause-count
returns-clause-count c = λ updates stands.
    let all = map_after updates in
    filled-end (pairs_between all c.args.low c.args.high) (pairs_between all c.loop-count.from c.args.high)
    c.loop-count.room c.args.room.now c.loop-count.count (c.loop-count.invariant.2 updates stands)
    (omega (arith, c.loop-count.invariant.0, c.loop-count.invariant.1))
    (λ some. omega (arith, c.loop-count-test.false, c.loop-count.invariant.0))
    ∙ ap (min (length c.args.room.now)) (sym (count-pairs all c.args.low c.args.high))
