use Rattle.std.proofs.Common.{◌≡◌, sym, subst, refl, ℕ, List, None}
use Rattle.exact_cross.specs.declared.segment.Segment.{Segment}
use Rattle.levels.specs.Indexes.{IsIndex}
use Rattle.commands.specs.Tasks.{Bounds, bounds_of}
use Rattle.commands.specs.Texts.Indexing.{tells_levels}
use Rattle.commands.specs.Texts.Build.{IsBuilt, built_level}
use Rattle.commands.proofs.build.write.Goals as goal

-- what is told of the index is told of the keys
told : (keys of_index : List ℕ) (bounds : Bounds) (levels : List (List Segment)) →
    of_index ≡ keys → IsIndex keys bounds.eps bounds.eps_rec levels →
    IsBuilt keys bounds (tells_levels of_index levels (built_level of_index bounds None levels))
told keys of_index bounds levels same index =
    subst (λ (k : List ℕ). IsBuilt keys bounds (tells_levels k levels (built_level k bounds None levels))) (sym same)
    (record { levels = levels; index = index; told = refl })

pub returns : goal.returns
returns g c = (
  _,
  told c.args.indexing.sorted.keys.items _
      (bounds_of c.args.indexing.bounds) _ c.in_ok-index.ensures.of_keys c.in_ok-index.ensures.levels,
  c.in_ok-write_index.ensures,
)
