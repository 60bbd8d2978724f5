use Rattle.std.proofs.Common.{◌≤◌, ◌+◌, ℕ, length, ap, ◌∙◌, sym, subst, arith}
use Rattle.std.proofs.lemmas.Grind.{common_steps}
use Rattle.std.proofs.lemmas.List.{take_all}
use Rattle.std.proofs.lemmas.List.Elements.{All-same, All-push}
use Rattle.std.specs.List.Sorted.{IsStrictlyIncreasing}
use Rattle.map_level.specs.Levels.{level_keys}
use Rattle.map_level.specs.Filters.{hash_of, Passes, ArePassed}
use Rattle.map_level.proofs.LevelLemmas.{keys-rise}
use Rattle.map_level.proofs.filter.keys_with_filter.Goals as goal

pub loop-entry-preserved : goal.loop-entry-preserved
loop-entry-preserved c =
    let P : ℕ → Type 0 = λ key. Passes c.set.new.words.items (hash_of key) in
    let before : ArePassed c.set.new.words.items c.loop-entry.keys.items =
    λ k d inside. c.set.ensures.others _ (c.loop-entry.invariant.passed k d inside) in
    record {
      keys = grind (arith, common_steps);
      some = omega (arith, c.loop-entry.invariant.some, c.set.ensures.len);
      few = omega (arith, c.loop-entry.invariant.few, c.set.ensures.len);
      passed = All-same P _ _ c.push_reserved.ensures.items
          (All-push P _ _ before (subst (Passes c.set.new.words.items) c.hash.ensures c.set.ensures.passes));
    }

pub of_distinct-requires-clause-rises : goal.of_distinct-requires-clause-rises
of_distinct-requires-clause-rises c =
    let done : length c.args.entries.now ≤ c.loop-entry.entry-index = omega arith in
    let all = c.loop-entry.invariant.keys ∙ ap level_keys (take_all c.loop-entry.entry-index c.args.entries.now done) in
    subst IsStrictlyIncreasing
    (sym all) (λ k inside. keys-rise c.args.entries.now c.requires.ascending k (k + 1) 0 (omega arith) inside)

pub returns-clause-filter : goal.returns-clause-filter
returns-clause-filter c =
    let done : length c.args.entries.now ≤ c.loop-entry.entry-index = omega arith in
    let all = c.loop-entry.invariant.keys ∙ ap level_keys (take_all c.loop-entry.entry-index c.args.entries.now done) in
    subst (ArePassed c.loop-entry.words.items) all c.loop-entry.invariant.passed
