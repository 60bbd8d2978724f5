-- There is one text of each command over the same inputs: the index,
-- its windows, the sorted codes and the number of places that are
-- looked at are functions of them.
use Rattle.std.proofs.Common.{◌≡◌, ℕ, ◌<◌, ◌^◌, ◌/◌, All, Bool, true, false, List}
use Rattle.std.proofs.Common.{◌∷◌, ◌++◌, None, Some, length, ap, sym, ◌∙◌, subst}
use Rattle.std.specs.Prelude.{map}
use Rattle.std.specs.Fork.{slice_chunk}
use Rattle.std.specs.List.{range_with_len}
use Rattle.std.specs.List.Sorted.{IsNonDecreasing}
use Rattle.std.proofs.lemmas.List.Elements.{All-map}
use Rattle.std.proofs.lemmas.List.Sorted.{All-permutation}
use Rattle.exact_cross.specs.declared.segment.Segment.{Segment}
use Rattle.window_search.specs.Searches.{lb}
use Rattle.zorder.specs.declared.regions.Region.{Region}
use Rattle.zorder.specs.Codes.{IsDimension, code}
use Rattle.zorder.proofs.CallerLemmas.{code-lt}
use Rattle.levels.specs.Lookups.{AreWindows}
use Rattle.piece_join.specs.Cuttings.{even_place}
use Rattle.key_points.specs.KeyPoints.{xs_of}
use Rattle.levels.specs.Indexes.{IsRelaxedIndex}
use Rattle.levels.proofs.CallerLemmas.{IsIndex-unique, IsRelaxedIndex-unique, AreWindows-unique}
use Rattle.boxes.specs.BoxAnswers.{IsLookedAt, codes_inside}
use Rattle.boxes.specs.PointCodes.{codes_of}
use Rattle.boxes.proofs.OneCount.{one_count, one_sort}
use Rattle.near.specs.Nearest.{AreBoxes}
use Rattle.near.proofs.CallerLemmas.{one_boxes, one_nearest}
use Rattle.commands.specs.declared.task.Centre.{Centre}
use Rattle.commands.specs.Tasks.{Bounds}
use Rattle.written.specs.InTurn.{TellsEach}
use Rattle.commands.specs.Texts.Indexing.{tells_levels}
use Rattle.commands.specs.Texts.Build.{IsBuilt, built_level}
use Rattle.commands.specs.Texts.Explain.{IsExplained, level_lines}
use Rattle.commands.specs.Texts.Save.{IsSaved, saved_pieces}
use Rattle.commands.specs.Texts.Query.{IsAnswered, TellsAnswer, TellsWindows, find_line, window_lines}
use Rattle.commands.specs.Texts.Relax.{IsBuiltRelaxed}
use Rattle.commands.specs.Texts.Regions.{IsSearched, TellsRegion, box_line, point_line}
use Rattle.commands.specs.Texts.Neighbours.{IsNearest, TellsNear, near_lines}
use Rattle.written.proofs.InTurnLemmas.{one_each}
use Rattle.commands.proofs.SameCuts.{AreCutsAt-unique}

pub one_built : (keys : List ℕ) (bounds : Bounds) (one two : List (List ℕ)) →
    IsBuilt keys bounds one → IsBuilt keys bounds two → one ≡ two
one_built keys bounds one two first second =
    let levels = IsIndex-unique keys bounds.eps bounds.eps_rec first.levels second.levels first.index second.index in
    first.told ∙ ap (λ (l : List (List Segment)). tells_levels keys l (built_level keys bounds None l)) levels
    ∙ sym second.told

pub one_explained : (keys : List ℕ) (bounds : Bounds) (one two : List (List ℕ)) →
    IsExplained keys bounds one → IsExplained keys bounds two → one ≡ two
one_explained keys bounds one two first second =
    let levels = IsIndex-unique keys bounds.eps bounds.eps_rec first.levels second.levels first.index second.index in
    first.told
    ∙ ap (λ (l : List (List Segment)). tells_levels keys l (level_lines keys bounds l)) levels ∙ sym second.told

pub one_saved : (keys : List ℕ) (bounds : Bounds) (one two : List (List ℕ)) →
    IsSaved keys bounds one → IsSaved keys bounds two → one ≡ two
one_saved keys bounds one two first second =
    let levels = IsIndex-unique keys bounds.eps bounds.eps_rec first.levels second.levels first.index second.index in
    first.told ∙ ap (saved_pieces bounds) levels ∙ sym second.told

module _ (keys : List ℕ) (bounds : Bounds) (order : IsNonDecreasing keys) where
  one_windows : (windows : Bool) (question : ℕ) (one two : List (List ℕ)) →
      TellsWindows keys bounds windows question one →
      TellsWindows keys bounds windows question two → one ≡ two
  one_windows false question one two none nothing = none ∙ sym nothing
  one_windows true question one two (levels, index, (windows, are, is)) (levels', index', (windows', are', is')) =
      let same = IsIndex-unique keys bounds.eps bounds.eps_rec levels levels' index index' in
      let here : AreWindows keys bounds.eps bounds.eps_rec levels' question windows =
      subst (λ (l : List (List Segment)). AreWindows keys bounds.eps bounds.eps_rec l question windows) same are in
      is
      ∙ ap window_lines
      (AreWindows-unique keys bounds.eps bounds.eps_rec levels' order index' question windows windows' here are')
      ∙ sym is'

  one_answer : (windows : Bool) (question : ℕ) (one two : List (List ℕ)) →
      TellsAnswer keys bounds windows question one →
      TellsAnswer keys bounds windows question two → one ≡ two
  one_answer windows question one two (told, tells, is) (told', tells', is') =
      is ∙ ap (λ (p : List (List ℕ)). find_line question (lb keys question) ∷ p)
      (one_windows windows question told told' tells tells') ∙ sym is'

  pub one_answered : (questions : List ℕ) (windows : Bool) (one two : List (List ℕ)) →
      IsAnswered keys bounds questions windows one →
      IsAnswered keys bounds questions windows two → one ≡ two
  one_answered questions windows one two first second =
      one_each (TellsAnswer keys bounds windows) (one_answer windows) questions one two first second

pub one_relaxed : (keys : List ℕ) (bounds : Bounds) (pieces : ℕ) (questions : List ℕ) (one two : List (List ℕ)) →
    IsNonDecreasing keys →
    IsBuiltRelaxed keys bounds pieces questions one → IsBuiltRelaxed keys bounds pieces questions two → one ≡ two
one_relaxed keys bounds pieces questions one two order first second =
    let m = length (xs_of keys) in
    let cuts =
    AreCutsAt-unique m pieces (even_place m pieces) first.cuts second.cuts first.index.even second.index.even in
    let index =
    subst (λ (c : List ℕ). IsRelaxedIndex keys bounds.eps bounds.eps_rec c first.levels) cuts first.index.index in
    let levels = IsRelaxedIndex-unique
    keys bounds.eps bounds.eps_rec second.cuts first.levels second.levels index second.index.index in
    let answers =
    one_answered keys bounds order questions false first.answers second.answers first.answered second.answered in
    first.told
    ∙ ap (λ (c : List ℕ). tells_levels keys first.levels (built_level keys bounds (Some (length c)) first.levels)
    ++ first.answers) cuts
    ∙ ap (λ (l : List (List Segment)). tells_levels keys l (built_level keys bounds (Some (length second.cuts)) l)
    ++ first.answers) levels
    ∙ ap (λ (a : List (List ℕ)). tells_levels keys second.levels
    (built_level keys bounds (Some (length second.cuts)) second.levels) ++ a) answers
    ∙ sym second.told

one_region : (sorted : List ℕ) (region : Region) (one two : List (List ℕ)) →
    TellsRegion sorted region one → TellsRegion sorted region two → one ≡ two
one_region sorted region one two (looked, is, told) (looked', is', told') =
    let same = one_count (IsLookedAt region sorted) (length sorted) looked looked' is is' in
    told
    ∙ ap (λ (n : ℕ). box_line (length (codes_inside region sorted)) n
    ∷ map (point_line region.d) (codes_inside region sorted)) same
    ∙ sym told'

pub one_searched : (d : ℕ) (coords : List ℕ) (regions : List Region) (one two : List (List ℕ)) →
    IsSearched d coords regions one →
    IsSearched d coords regions two → one ≡ two
one_searched d coords regions one two first second =
    let same = one_sort d coords first.sorted second.sorted first.codes second.codes in
    one_each (TellsRegion second.sorted) (one_region second.sorted) regions one two
    (subst (λ (s : List ℕ). TellsEach (TellsRegion s) regions one) same first.told) second.told

one_neighbours : (d : ℕ) (sorted : List ℕ) →
    All (λ z. z < 2 ^ 64) sorted → (centre : Centre) (one two : List (List ℕ)) →
    TellsNear d sorted centre one → TellsNear d sorted centre two → one ≡ two
one_neighbours d sorted small centre one two (answer, is, told) (answer', is', told') =
    let points =
    one_nearest d centre.count centre.place sorted answer.points answer'.points small is.points is'.points in
    let boxes = one_boxes d (length answer'.points) centre.place sorted answer.boxes answer'.boxes
    (subst (λ (found : List (ℕ × ℕ)). AreBoxes d centre.place sorted (length found) answer.boxes) points is.boxes)
    is'.boxes in
    told
    ∙ ap (λ (found : List (ℕ × ℕ)). near_lines d (record { points = found; boxes = answer.boxes })) points
    ∙ ap (λ (n : ℕ). near_lines d (record { points = answer'.points; boxes = n })) boxes
    ∙ sym told'

pub one_nearest_text : (d : ℕ) (coords : List ℕ) (centres : List Centre) (one two : List (List ℕ)) →
    IsDimension d → IsNearest d coords centres one →
    IsNearest d coords centres two → one ≡ two
one_nearest_text d coords centres one two dimension first second =
    let same = one_sort d coords first.sorted second.sorted first.codes second.codes in
    let small = All-permutation (λ (z : ℕ). z < 2 ^ 64) (codes_of d coords) second.sorted second.codes.same
    (All-map (λ (z : ℕ). z < 2 ^ 64) (λ i. code d (slice_chunk coords d i))
    (range_with_len 0 (length coords / d)) (λ k e within. code-lt d dimension _)) in
    one_each (TellsNear d second.sorted) (one_neighbours d second.sorted small) centres one two
    (subst (λ (s : List ℕ). TellsEach (TellsNear d s) centres one) same first.told) second.told
