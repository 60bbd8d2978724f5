use Rattle.std.proofs.Common.{◌≡◌, ◌≢◌, ◌<◌, ℕ, None, length, slice_index, slice_index_or, sym, subst, ◌∙◌, arith}
use Rattle.std.proofs.Common.{below_more, get_or-set_other, get_or-set_same}
use Rattle.std.proofs.Math.ListN.{length-set}
use Rattle.std.proofs.lemmas.List.{get_or_default}
use Rattle.tombstones.specs.Entries.{entry_at}
use Rattle.log_levels.specs.declared.many.Search.{Search}
use Rattle.log_levels.specs.declared.many.Search.TheVariants.{Done, Open}
use Rattle.log_levels.specs.Kept.{IsBegun}
use Rattle.log_levels.proofs.many.begin.Goals as goal

pub loop-i-preserved : goal.loop-i-preserved
loop-i-preserved c =
    let was = c.loop-i.searches in let i = c.loop-i.i in let new = c.begun.result in
    let entry = λ (k : ℕ). entry_at c.args.level.now (slice_index c.args.keys.now k) in
    let inside : i < length was = omega (arith, c.loop-i.invariant.count, c.requires, c.loop-i-test.true) in
    record {
      count = length-set was i new ∙ c.loop-i.invariant.count;
      begun = below_more _ _
          (λ k below. let other : k ≢ i = omega arith in
          subst (λ search. IsBegun (entry k) (slice_index_or c.args.searches.now k Open) search)
          (sym (get_or-set_other was i k new Open other)) (c.loop-i.invariant.begun k below))
          (subst (λ search. IsBegun (entry i) (slice_index_or c.args.searches.now i Open) search)
          (sym (get_or-set_same was i new Open inside))
          (subst (λ old. IsBegun (entry i) old new)
          (get_or_default was i (Done None) Open inside ∙ c.loop-i.invariant.rest i (omega arith)) c.begun.ensures));
      rest = λ k behind. let other : k ≢ i = omega arith in
          get_or-set_other was i k new Open other ∙ c.loop-i.invariant.rest k (omega arith);
    }
