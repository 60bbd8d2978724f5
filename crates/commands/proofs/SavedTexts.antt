-- The index of keys, as the index over their points, and its bytes.
--
-- Main result: `IsSaved-of`: the head and the levels of the index of keys, put together, are its spelling.
use Rattle.std.proofs.Common.{◌≡◌, ℕ, ◌+◌, ◌<◌, ◌≤◌, ◌^◌, List, [], ◌∷◌, ◌++◌}
use Rattle.std.proofs.Common.{length, map, take, inl, inr, refl, sym, ap, ◌∙◌, arith}
use Rattle.std.specs.List.{concat, flat_map}
use Rattle.std.specs.List.Sorted.{IsNonDecreasing}
use Rattle.std.proofs.lemmas.Bool.{cases_lt}
use Rattle.std.proofs.lemmas.List.{length-map, map-append, take_more}
use Rattle.exact_cross.specs.declared.segment.Segment.{Segment}
use Rattle.exact_cross.specs.IndexLevels.{level_at, IsIndexOver}
use Rattle.key_points.specs.KeyPoints.{xs_of, ys_of}
use Rattle.levels.specs.Indexes.{IsIndex}
use Rattle.levels.proofs.CallerLemmas.{IsIndex-least, ascends, xs_at-length, xs-few, xs-first}
use Rattle.index_file.specs.Spelling.{head_bytes, level_bytes, index_bytes}
use Rattle.index_file.specs.Spelled.{saved_run}
use Rattle.index_file.specs.Checks.{saved_levels}
use Rattle.index_file.proofs.CallerLemmas.{IsBounded-from_index}
use Rattle.commands.specs.Tasks.{Bounds}
use Rattle.commands.specs.Texts.Save.{IsSaved, level_pieces, saved_pieces}

-- there is a point where there is a key
pub IsIndexOver-from_keys : (keys : List ℕ) (eps eps_rec : ℕ) (levels : List (List Segment)) →
    IsNonDecreasing keys → IsIndex keys eps eps_rec levels →
    IsIndexOver (xs_of keys) (ys_of keys) eps eps_rec levels
IsIndexOver-from_keys keys eps eps_rec levels order index = record {
  none = λ none. elim (cases_lt 0 (length keys)) [
    | inl some ↦ absurd (omega (arith, none, (xs-first keys some).0))
    | inr empty ↦ index.none (omega arith)
  ];
  some = λ some. index.some (omega (arith, some, xs-few keys order));
  each = index.each;
  last = index.last;
  others = index.others;
}

pub IsIndex-from_points : (keys : List ℕ) (eps eps_rec : ℕ) (levels : List (List Segment)) →
    IsNonDecreasing keys → IsIndexOver (xs_of keys) (ys_of keys) eps eps_rec levels →
    IsIndex keys eps eps_rec levels
IsIndex-from_points keys eps eps_rec levels order over = record {
  none = λ none. over.none (omega (arith, none, xs-few keys order));
  some = λ some. over.some (xs-first keys some).0;
  each = over.each;
  last = over.last;
  others = over.others;
}

-- a level has fewer runs than 2^32
pub level_few : (keys : List ℕ) (eps eps_rec : ℕ) (levels : List (List Segment)) (i : ℕ) →
    IsNonDecreasing keys → length keys < 2 ^ 32 → IsIndex keys eps eps_rec levels →
    i < length levels → length (level_at levels i) < 2 ^ 32
level_few keys eps eps_rec levels i order few index inside =
    let above = ascends keys eps eps_rec levels order index (i + 1) (omega arith) in
    omega (arith, above.few, few, xs_at-length keys levels i)

-- the pieces of one level more
pub pieces-more : (levels : List (List Segment)) (i : ℕ) → i < length levels →
    level_pieces (take (i + 1) levels) ≡ level_pieces (take i levels)
    ++ level_bytes (map saved_run (level_at levels i)) ∷ []
pieces-more levels i inside =
    let save : List Segment → List ℕ = λ segments. level_bytes (map saved_run segments) in
    ap level_pieces (take_more levels i [] inside) ∙ map-append save (take i levels) (level_at levels i ∷ [])

levels-written : (levels : List (List Segment)) →
    concat (level_pieces levels) ≡ flat_map level_bytes (saved_levels levels)
levels-written [] = refl
levels-written (segments ∷ later) =
    ap (λ (bytes : List ℕ). level_bytes (map saved_run segments) ++ bytes) (levels-written later)

index-written : (bounds : Bounds) (levels : List (List Segment)) →
    concat (saved_pieces bounds levels)
    ≡ index_bytes (record { eps = bounds.eps; eps_rec = bounds.eps_rec; levels = saved_levels levels })
unfolding index_bytes
index-written bounds levels =
    let count : length levels ≡ length (saved_levels levels) = sym (rw length-map refl) in
    ap (λ (bytes : List ℕ). head_bytes bounds.eps bounds.eps_rec (length levels) ++ bytes) (levels-written levels)
    ∙ ap (λ (n : ℕ). head_bytes bounds.eps bounds.eps_rec n ++ flat_map level_bytes (saved_levels levels)) count

pub IsSaved-of : (keys : List ℕ) (bounds : Bounds) (levels : List (List Segment)) (pieces : List (List ℕ)) →
    IsNonDecreasing keys → length keys < 2 ^ 32 →
    bounds.eps ≤ 1048576 → bounds.eps_rec ≤ 1048576 →
    length levels < 2 ^ 32 → IsIndex keys bounds.eps bounds.eps_rec levels → pieces ≡ saved_pieces bounds levels →
    IsSaved keys bounds pieces
IsSaved-of keys bounds levels pieces order few small small_rec count index told = record {
  levels = levels;
  index = index;
  least = λ i inside. IsIndex-least keys bounds.eps bounds.eps_rec levels order index i inside;
  told = told;
  spelled = record {
    bounded = IsBounded-from_index (xs_of keys)
        (ys_of keys) bounds.eps bounds.eps_rec levels small small_rec (omega (arith, few, xs-few keys order)) count
        (IsIndexOver-from_keys keys bounds.eps bounds.eps_rec levels order index);
    written = ap concat told ∙ index-written bounds levels;
  };
}
