use Rattle.std.proofs.Common.{◌≡◌, ◌+◌, ◌++◌, ◌∷◌, ◌<◌, [], ℕ, List, None, subst, sym, ap, ◌∙◌, arith}
use Rattle.std.proofs.lemmas.List.{append_assoc, append-nil}
use Rattle.log_levels.specs.Maps.{map_after, value_at, pairs_between}
use Rattle.log_levels.specs.Accepted.{entries_of}
use Rattle.log_levels.specs.Kept.{IsLeft}
use Rattle.log_levels.proofs.MapLemmas.{rises-after, pairs-all}
use Rattle.log_levels.proofs.ValueLemmas.{value-after}
use Rattle.log_levels.proofs.WalkLemmas.{pairs-found, pairs-none, live-within}
use Rattle.log_levels.proofs.log_map.LogMap.all_pairs.Goals as goal

pub loop-key-preserved : goal.loop-key-preserved
loop-key-preserved c =
    let same : c.from-from.result ≡ c.in-Some.key = c.from-from.ensures in
    record {
      at = subst (λ k. IsLeft c.args.self.now c.next_pair.new.walk (k + 1)) (sym same) c.in-Some.ensures.left;
      few = (let typed = rw c.in-Some.is at c.next_pair.type_inv in omega (arith, typed));
      list = λ updates high stands none.
          let live = c.in-Some.ensures.live (entries_of updates) stands in
          let found = pairs-found updates c.loop-key.from high c.in-Some.key c.in-Some.value live
          (live-within updates c.loop-key.from high c.in-Some.key c.in-Some.value live none) in
          let later = pairs_between (map_after updates) (c.in-Some.key + 1) high in
          c.loop-key.invariant.list updates high stands none
          ∙ ap (λ (pairs : List (ℕ × ℕ)). c.loop-key.pairs.items ++ pairs) found
          ∙ sym (append_assoc c.loop-key.pairs.items ((c.in-Some.key, c.in-Some.value) ∷ []) later)
          ∙ ap (λ (list : List (ℕ × ℕ)). list ++ later) (sym c.in_ok-push.ensures.items)
          ∙ ap (λ k. c.push.new.self.items ++ pairs_between (map_after updates) (k + 1) high) (sym same);
    }

pub returns : goal.returns
returns c = λ updates stands.
    let from = c.loop-key.from in
    let live = c.in_default.ensures.live (entries_of updates) stands in
    let none : (key : ℕ) → from < key → value_at (map_after updates) key ≡ None = λ key above. value-after updates key
    ∙ live key (omega arith) in
    sym (append-nil c.loop-key.pairs.items)
    ∙ ap (λ (pairs : List (ℕ × ℕ)). c.loop-key.pairs.items ++ pairs) (sym (pairs-none updates from from live))
    ∙ sym (c.loop-key.invariant.list updates from stands none)
    ∙ pairs-all (map_after updates) from (rises-after updates) none
