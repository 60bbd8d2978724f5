-- What is told of the index is told of the keys.
use Rattle.std.proofs.Common.{◌++◌, subst, ℕ, List, Some, false}
use Rattle.levels.specs.Indexes.{PgmIndex}
use Rattle.commands.specs.Finders.{IsRelaxedOf}
use Rattle.commands.specs.Tasks.{Bounds, bounds_of}
use Rattle.commands.specs.Texts.Indexing.{tells_levels}
use Rattle.commands.specs.Texts.Build.{built_level}
use Rattle.commands.specs.Texts.Query.{IsAnswered}
use Rattle.commands.specs.Texts.Relax.{IsBuiltRelaxed}
use Rattle.commands.proofs.relax.write.Goals as goal

told : (keys : List ℕ) (bounds : Bounds) (pieces slack : ℕ)
    (index : PgmIndex) (questions : List ℕ) (answers : List (List ℕ)) → IsRelaxedOf keys bounds pieces slack index →
    IsAnswered index.keys bounds questions false answers →
    IsBuiltRelaxed keys bounds pieces questions
    (tells_levels index.keys index.levels (built_level index.keys bounds (Some slack) index.levels) ++ answers)
told keys bounds pieces slack index questions answers made answered = record {
  cuts = made.cuts;
  levels = index.levels;
  index = made.levels;
  answers = answers;
  answered = subst (λ (k : List ℕ). IsAnswered k bounds questions false answers) made.of_keys answered;
  told = λ i. tells_levels
      (made.of_keys i) index.levels (built_level (made.of_keys i) bounds (Some (made.count i)) index.levels) ++ answers;
}

pub returns : goal.returns
returns g c =
    let (answers, answered, written) = c.in_ok-write_relaxed.ensures in (
      _,
      told c.args.relaxing.indexing.sorted.keys.items
          (bounds_of c.args.relaxing.indexing.bounds) c.args.relaxing.pieces.count
          c.in_ok-index.slack c.in_ok-index.index c.args.relaxing.questions.items answers c.in_ok-index.ensures
          (subst (λ (q : List ℕ).
          IsAnswered c.in_ok-index.index.keys (bounds_of c.args.relaxing.indexing.bounds) q false answers)
          c.as_slice-questions.ensures.value answered),
      written,
    )
