use Rattle.std.proofs.Common.{◌≡◌, ◌<◌, ◌≤◌, ◌^◌, length, sym, subst, refl, arith, ℕ, List}
use Rattle.std.specs.List.Sorted.{IsNonDecreasing}
use Rattle.exact_cross.specs.declared.segment.Segment.{Segment}
use Rattle.levels.specs.Indexes.{IsIndex}
use Rattle.levels.proofs.CallerLemmas.{IsIndex-least, IsIndex-checked}
use Rattle.written.proofs.WritingLemmas.{broken_text}
use Rattle.commands.specs.Tasks.{Bounds, bounds_of}
use Rattle.commands.specs.Texts.Indexing.{tells_levels}
use Rattle.commands.specs.Texts.Explain.{IsExplained, level_lines}
use Rattle.commands.proofs.explain.write.Goals as goal

-- what is told of the index is told of the keys
told : (keys of_index : List ℕ) (bounds : Bounds) (levels : List (List Segment)) →
    of_index ≡ keys → IsIndex keys bounds.eps bounds.eps_rec levels →
    IsNonDecreasing keys → length keys < 2 ^ 32 → bounds.eps ≤ 1048576 → bounds.eps_rec ≤ 1048576 →
    IsExplained keys bounds (tells_levels of_index levels (level_lines of_index bounds levels))
told keys of_index bounds levels same index order few bounded bounded_above =
    subst (λ (k : List ℕ). IsExplained keys bounds (tells_levels k levels (level_lines k bounds levels))) (sym same)
    (record {
      levels = levels;
      index = index;
      least = λ i inside. record {
        least = IsIndex-least keys bounds.eps bounds.eps_rec levels order index i inside;
        shown = IsIndex-checked keys bounds.eps bounds.eps_rec levels order index few bounded bounded_above i inside;
      };
      told = refl;
    })

pub returns : goal.returns
returns g c = (
  _,
  told c.args.indexing.sorted.keys.items _
      (bounds_of c.args.indexing.bounds) _ c.in_ok-index.ensures.of_keys c.in_ok-index.ensures.levels
      c.args.indexing.sorted.never_falls (omega (arith, c.args.indexing.sorted.keys.ok.0, c.args.indexing.sorted.few))
      c.args.indexing.bounds.bounded c.args.indexing.bounds.bounded_above,
  c.in_ok-write_index.ensures,
)

pub returns-in_err-write_index : goal.returns-in_err-write_index
returns-in_err-write_index g c =
    broken_text _ c.from_residual-in_err-write_index.result c.from_residual-in_err-write_index.ensures.1
    (told c.args.indexing.sorted.keys.items _
    (bounds_of c.args.indexing.bounds) _ c.in_ok-index.ensures.of_keys c.in_ok-index.ensures.levels
    c.args.indexing.sorted.never_falls (omega (arith, c.args.indexing.sorted.keys.ok.0, c.args.indexing.sorted.few))
    c.args.indexing.bounds.bounded c.args.indexing.bounds.bounded_above)
    c.in_err-write_index.ensures
