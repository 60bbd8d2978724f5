-- There is one text of a drill: the index, the sorted codes and the
-- number of places that are looked at are functions of the inputs.
use Rattle.std.proofs.Common.{◌≡◌, ℕ, List, length, ap, sym, ◌∙◌, subst}
use Rattle.exact_cross.specs.IndexLevels.{level_at}
use Rattle.levels.proofs.CallerLemmas.{IsIndex-unique}
use Rattle.boxes.specs.BoxAnswers.{IsLooked, IsLookedAt, codes_inside}
use Rattle.boxes.proofs.OneCount.{one_count, one_sort}
use Rattle.drill_inputs.specs.Inputs.{keys_of, coordinates_of, searched_region}
use Rattle.commands.specs.declared.drill.Counts.{Counts}
use Rattle.commands.specs.Tasks.{Bounds}
use Rattle.commands.specs.Texts.Drill.{IsDrilled, drill_lines}

same_lines : (n seed : ℕ) (a b : Counts) →
    a.distinct ≡ b.distinct → a.levels ≡ b.levels → a.runs ≡ b.runs → a.sum ≡ b.sum → a.found ≡ b.found →
    a.looked ≡ b.looked → a.live ≡ b.live → drill_lines n seed a ≡ drill_lines n seed b
same_lines n seed a b distinct levels runs sum found looked live = cc

pub one_drilled : (n seed : ℕ) (bounds : Bounds) (one two : List (List ℕ)) →
    IsDrilled n seed bounds one → IsDrilled n seed bounds two → one ≡ two
one_drilled n seed bounds one two first second =
    let x = first.counted in
    let y = second.counted in
    let levels = IsIndex-unique (keys_of n seed) bounds.eps bounds.eps_rec x.levels y.levels x.index y.index in
    let sorted = one_sort 2 (coordinates_of n seed) x.sorted y.sorted x.codes y.codes in
    let looked =
    one_count (IsLookedAt searched_region y.sorted) (length y.sorted) first.counts.looked second.counts.looked
    (subst (λ (s : List ℕ). IsLooked searched_region s first.counts.looked) sorted x.looked) y.looked in
    first.told
    ∙ same_lines n seed first.counts second.counts
    (x.distinct ∙ sym y.distinct) (x.level_count ∙ ap length levels ∙ sym y.level_count)
    (x.runs ∙ ap (λ l. length (level_at l 0)) levels ∙ sym y.runs) (x.sum ∙ sym y.sum)
    (x.found ∙ ap (λ s. length (codes_inside searched_region s)) sorted ∙ sym y.found) looked (x.live ∙ sym y.live)
    ∙ sym second.told
