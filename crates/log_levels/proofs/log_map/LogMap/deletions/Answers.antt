use Rattle.std.proofs.Common.{◌≡◌, ◌+◌, ◌++◌, ◌∷◌, [], ℕ, List, map, subst, sym, ap, ◌∙◌, arith}
use Rattle.std.proofs.lemmas.List.{append_assoc, append-nil}
use Rattle.tombstones.specs.declared.entry.Entry.{Entry}
use Rattle.std.specs.Map.{keys_of}
use Rattle.log_levels.specs.Maps.{map_after}
use Rattle.log_levels.specs.Accepted.{entries_of, keys_between, del_entry}
use Rattle.log_levels.specs.Kept.{IsBareIn, IsLeft}
use Rattle.log_levels.proofs.BareLemmas.{range-bare}
use Rattle.log_levels.proofs.WalkLemmas.{pairs-found, pairs-past, pairs-none}
use Rattle.log_levels.proofs.log_map.LogMap.deletions.Goals as goal

pub loop-key-init : goal.loop-key-init
loop-key-init c = record {
  at = subst (IsLeft c.args.self.now c.walk-walk.result) (sym c.from-from.ensures) c.walk-walk.ensures;
  few = omega (arith, c.from-from.ensures, c.behind-start.type_inv);
  list = λ updates stands.
      let bare = subst (λ held. IsBareIn held c.self.inside.bare) c.self.view_is c.self.invariant.bare in
      let same = range-bare updates c.args.low c.behind-start.result c.args.high c.behind-start.ensures.above
      (λ key above below. bare (entries_of updates) key stands (c.behind-start.ensures.bare key above below)) in
      ap (λ (pairs : List (ℕ × ℕ)). map del_entry (keys_of pairs)) same
      ∙ ap (λ k. map del_entry (keys_between (map_after updates) k c.args.high)) (sym c.from-from.ensures)
      ∙ ap (λ (list : List Entry). list
      ++ map del_entry (keys_between (map_after updates) c.from-from.result c.args.high))
      (sym c.in_ok-deletions.ensures.items);
}

pub returns-then-key-high : goal.returns-then-key-high
returns-then-key-high c = λ updates stands.
    let past = pairs-past updates c.loop-key.from c.args.high c.in-Some.key c.in-Some.field-0-1
    (c.in-Some.ensures.live (entries_of updates) stands) c.if-key-high.true in
    sym (c.loop-key.invariant.list updates stands
    ∙ ap (λ (pairs : List (ℕ × ℕ)). c.loop-key.deletions.items ++ map del_entry (keys_of pairs)) past
    ∙ append-nil c.loop-key.deletions.items)

pub loop-key-preserved : goal.loop-key-preserved
loop-key-preserved c =
    let same : c.from-from-in-Some.result ≡ c.in-Some.key = c.from-from-in-Some.ensures in
    record {
      at = subst (λ k. IsLeft c.args.self.now c.next_pair.new.walk (k + 1)) (sym same) c.in-Some.ensures.left;
      few = omega arith;
      list = λ updates stands.
          let found = pairs-found updates c.loop-key.from c.args.high c.in-Some.key c.in-Some.field-0-1
          (c.in-Some.ensures.live (entries_of updates) stands) c.if-key-high.false in
          let later = map del_entry (keys_between (map_after updates) (c.in-Some.key + 1) c.args.high) in
          c.loop-key.invariant.list updates stands
          ∙ ap (λ (pairs : List (ℕ × ℕ)). c.loop-key.deletions.items ++ map del_entry (keys_of pairs)) found
          ∙ sym (append_assoc c.loop-key.deletions.items (del_entry c.in-Some.key ∷ []) later)
          ∙ ap (λ (list : List Entry). list ++ later) (sym c.in_ok-push.ensures.items)
          ∙ ap (λ k. c.push.new.self.items ++ map del_entry (keys_between (map_after updates) (k + 1) c.args.high))
          (sym same);
    }

pub returns : goal.returns
returns c = λ updates stands.
    let none = pairs-none updates c.loop-key.from c.args.high (c.in_default.ensures.live (entries_of updates) stands) in
    sym (c.loop-key.invariant.list updates stands
    ∙ ap (λ (pairs : List (ℕ × ℕ)). c.loop-key.deletions.items ++ map del_entry (keys_of pairs)) none
    ∙ append-nil c.loop-key.deletions.items)
