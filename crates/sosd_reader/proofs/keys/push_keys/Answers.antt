use Rattle.std.proofs.Common.{rules, ◌≡◌, ℕ, ◌*◌, ◌-◌, ◌/◌, List, length, take}
use Rattle.std.proofs.Common.{drop, slice_index, sym, ap, ◌∙◌, subst, arith}
use Rattle.std.proofs.lemmas.List.{take_rest, get_or_push, length_push}
use Rattle.byteorder.specs.Endian.{little_bytes}
use Rattle.sosd_reader.specs.NumberFiles.Kind.{of_keys}
use Rattle.sosd_reader.proofs.Widths.{over-last}
use Rattle.sosd_reader.proofs.KindLemmas.{width-some}
use Rattle.sosd_reader.proofs.Pushing.{under_way_none, under_way_push, under_way_fails}
use Rattle.sosd_reader.proofs.Pushing.{under_way_end, key-follows, key-falls}
use Rattle.sosd_reader.proofs.keys.push_keys.Goals as goal

pub returns-then-key-before-clause-fault : goal.returns-then-key-before-clause-fault
returns-then-key-before-clause-fault g c =
    let bytes = c.args.bytes.now in
    let w = g.row.WIDTH in
    let is : little_bytes w c.first_number-key.result ≡ take w (drop (w * c.loop-i.i) bytes) =
    c.first_number-key.ensures.bytes ∙ ap (take w) (take_rest bytes (w * c.loop-i.i)) in (
      tt,
      under_way_fails (of_keys w) (length bytes / w) _ bytes _ _ _ _ _ c.loop-i.invariant.under_way
          (omega arith) (omega (arith, c.loop-i.invariant.len)) (omega arith) c.first_number-key.ensures.small is
          (key-falls c.loop-i.keys.items _ _ c.loop-i.invariant.last c.if-key-before.true) c.if-key-before.true,
    )

pub loop-i-init : goal.loop-i-init
loop-i-init g c = record {
  under_way = under_way_none (of_keys g.row.WIDTH) c.args.keys.now.items c.args.bytes.now c.requires.all_follow;
  last = search rules;
  len = omega arith;
  room = c.requires.room;
}

pub loop-i-preserved : goal.loop-i-preserved
loop-i-preserved g c =
    let bytes = c.args.bytes.now in
    let w = g.row.WIDTH in
    let key = c.first_number-key.result in
    let keys = c.loop-i.keys.items in
    let is : little_bytes w key ≡ take w (drop (w * c.loop-i.i) bytes) = c.first_number-key.ensures.bytes
    ∙ ap (take w) (take_rest bytes (w * c.loop-i.i)) in
    let items = c.push_reserved.ensures.items in
    let len = c.push_reserved.ensures.len in
    record {
      under_way = rw items
          (under_way_push (of_keys w) _ bytes _ _ key c.loop-i.invariant.under_way c.first_number-key.ensures.small is
          (key-follows w keys _ key c.loop-i.invariant.last c.if-key-before.false));
      last = subst (λ (xs : List ℕ). key ≡ slice_index xs (length xs - 1))
          (sym items) (sym (get_or_push keys key 0 _ (omega (arith, length_push keys key))));
      len = omega (arith, len, c.loop-i.invariant.len);
      room = omega arith;
    }

pub returns-clause-keys : goal.returns-clause-keys
returns-clause-keys g c =
    let w = g.row.WIDTH in
    let n = length c.args.bytes.now in
    let some = width-some (of_keys w) c.requires.kind in
    let last : c.loop-i.i ≡ n / w = omega arith in
    let place : w * c.loop-i.i ≡ w * (n / w) = ap (λ k. w * k) last in
    under_way_end (of_keys w) _ _ _ _ c.loop-i.invariant.under_way some (omega (arith, over-last w n some, place))
