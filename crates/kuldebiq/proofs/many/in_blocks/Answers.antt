-- A block is copied behind those before it.
use Rattle.std.proofs.Common.{◌≡◌, ℕ, ◌+◌, ◌-◌, ◌≤◌, ◌⊎◌, inl, inr, ◌++◌, List, length}
use Rattle.std.proofs.Common.{map, take, drop, vec_capacity, sym, ap, ◌∙◌, arith}
use Rattle.std.proofs.lemmas.List.{ext_get_or, get_or-map, length-map}
use Rattle.window_search.specs.Searches.{lb}
use Rattle.kuldebiq.proofs.Blocks.{up_to_block}
use Rattle.kuldebiq.proofs.many.in_blocks.Goals as goal

pub loop-from-preserved : goal.loop-from-preserved
loop-from-preserved c =
    let keys = c.args.index.now.keys in
    let qs = c.args.questions.now in let from = c.loop-from.from in let size = c.min-size.result in
    let found : c.deref.result.now ≡ map (lb keys) (take (from + size - from) (drop from qs)) =
    c.deref.ensures.value ∙ c.positions.ensures.positions ∙ ap
    (λ (xs : List ℕ). xs ++ map (lb keys) (take (from + size - from) (drop from qs))) c.clear.ensures.items in (
      omega (arith, c.copy_at.ensures.length, c.loop-from.invariant.0),
      room (c.loop-from.invariant.1),
      up_to_block keys qs c.loop-from.positions c.copy_at.new.positions c.deref.result.now from size
          (omega (arith, c.min-size.ensures, c.loop-from-test.true))
          found c.loop-from.invariant.2 c.copy_at.ensures.before c.copy_at.ensures.copied,
    ) where
      room : (length c.args.questions.now ≤ vec_capacity c.loop-from.found) ⊎ (4096 ≤ vec_capacity c.loop-from.found)
          → (length c.args.questions.now ≤ vec_capacity c.positions.new.into)
          ⊎ (4096 ≤ vec_capacity c.positions.new.into)
      room (inl all) = inl (omega (arith, all, c.clear.ensures.capacity, c.positions.ensures.capacity))
      room (inr many) = inr (omega (arith, many, c.clear.ensures.capacity, c.positions.ensures.capacity))

pub returns : goal.returns
returns c =
    let keys = c.args.index.now.keys in
    ext_get_or 0 c.loop-from.positions (map (lb keys) c.args.questions.now)
    (omega (arith, c.loop-from.invariant.0, length-map {B = ℕ} c.args.questions.now (lb keys))) (λ i inside.
    c.loop-from.invariant.2 i (omega (arith, c.loop-from.invariant.0, c.loop-from-test.false, inside))
    ∙ sym (get_or-map (lb keys) c.args.questions.now i 0 0 (omega (arith, c.loop-from.invariant.0, inside))))
