-- The numbers of an index have four bytes each, so it can be saved.
--
-- Main result: `IsBounded-from_index`: places are below the number
-- of points, which is below 2^32, and no level has more runs than
-- points.
use Rattle.std.proofs.Common.{◌≡◌, ℕ, zero, suc, ◌+◌, ◌<◌, ◌≤◌, ◌^◌, List, [], ◌∷◌, length}
use Rattle.std.proofs.Common.{map, get_or, All, inl, inr, refl, sym, ap, ◌∙◌, subst, arith}
use Rattle.std.proofs.lemmas.Bool.{cases_lt}
use Rattle.std.proofs.lemmas.List.{length-map}
use Rattle.std.proofs.lemmas.List.Elements.{All-nil, All-cons}
use Rattle.exact_cross.specs.declared.segment.Segment.{Segment}
use Rattle.exact_cross.specs.Points.{Points}
use Rattle.exact_cross.specs.Covers.{IsLongest}
use Rattle.exact_cross.specs.Steep.{IsSteepOf}
use Rattle.exact_cross.specs.Segmentation.{IsSegmentation}
use Rattle.exact_cross.specs.IndexLevels.{level_at, level_xs, level_points, eps_at, IsIndexOver}
use Rattle.exact_cross.proofs.LevelPoints.{level_xs-base, level_xs-above}
use Rattle.index_file.specs.declared.saved.SavedRun.{SavedRun}
use Rattle.index_file.specs.declared.saved.SavedCut.{SavedCut}
use Rattle.index_file.specs.declared.saved.SavedCut.TheVariants.{Last, Over, Under}
use Rattle.index_file.specs.Spelling.{CutFits, RunFits, LevelFits, IsBounded}
use Rattle.index_file.specs.Spelled.{saved_run}
use Rattle.index_file.specs.Checks.{saved_levels}
use Rattle.index_file.specs.Judged.{first_start, EndsBy, IsJudged, AreJudged}
use Rattle.index_file.proofs.JudgedRuns.{first-within, judged-from_saved}
use Rattle.index_file.proofs.RightLevels.{runs_within}

-- the pair of a run lies in it
pair_inside : (p : Points) (eps s e a b : ℕ) → s < e → IsSteepOf p eps s e a b → (a < e) × (b < e)
pair_inside p eps s e a b some steep = elim (cases_lt (s + 1) e) [
  | inl more ↦ let pair = (steep.steep more).pair in
      (omega (arith, pair.rises, pair.to_end), omega (arith, pair.to_end))
  | inr single ↦ let one = steep.alone (omega arith) in (omega (arith, one.0), omega (arith, one.1))
]

cut_fits : (p : Points) (eps s e a b : ℕ) (cut : SavedCut) → e < 2 ^ 32 → EndsBy p eps s e a b cut → CutFits cut
cut_fits p eps s e a b Last few ends = tt
cut_fits p eps s e a b Over few ends = tt
cut_fits p eps s e a b (Under c d) few ends =
    let pair = ends.1.pair.pair in (omega (arith, pair.rises, pair.to_end), omega (arith, pair.to_end))

run_fits : (p : Points) (eps : ℕ) (run : SavedRun) (e : ℕ) →
    p.count < 2 ^ 32 → e ≤ p.count → IsJudged p eps run e → RunFits run
run_fits p eps run e few within judged =
    let some : run.start < e = judged.some in
    let pair = pair_inside p eps run.start e run.a run.b some judged.steep.pair in
    record {
      start = omega arith;
      a = omega (arith, pair.0);
      b = omega (arith, pair.1);
      cut = elim (cases_lt e p.count) [
        | inl before ↦ cut_fits p eps run.start e run.a run.b run.cut (omega arith) (judged.cut.other before)
        | inr at_end ↦ subst CutFits (sym (judged.cut.last (omega arith))) tt
      ];
    }

runs_fit : (p : Points) (eps : ℕ) (runs : List SavedRun) →
    p.count < 2 ^ 32 → AreJudged p eps runs → (k : ℕ) (none : SavedRun) → k < length runs → RunFits (get_or runs k none)
runs_fit p eps [] few judged k none inside = absurd (omega arith)
runs_fit p eps (run ∷ later) few judged zero none inside =
    run_fits p eps run (first_start later p.count) few (first-within p eps later judged.1) judged.0
runs_fit p eps (run ∷ later) few judged (suc k) none inside = runs_fit p eps later few judged.1 k none (omega arith)

level_fits : (p : Points) (eps : ℕ) (segments : List Segment) →
    p.count < 2 ^ 32 → IsSegmentation p eps 0 p.count segments → LevelFits (map saved_run segments)
level_fits p eps segments few level =
    let judged = judged-from_saved p eps
    (map saved_run segments) (record { segments = segments; segmentation = level; same = refl }) in
    let count : length (map saved_run segments) ≡ length segments = rw length-map refl in
    record {
      few = omega (arith, count, runs_within (IsLongest p eps p.count) 0 p.count segments level.greedy);
      each = λ k none inside. runs_fit p eps (map saved_run segments) few judged.1 k none inside;
    }

-- no level has more points than the lowest
points_few : (xs ys : List ℕ) (eps eps_rec : ℕ) (levels : List (List Segment)) →
    IsIndexOver xs ys eps eps_rec levels → (k : ℕ) → k < length levels → length (level_xs xs levels k) ≤ length xs
points_few xs ys eps eps_rec levels index zero inside = omega (arith, ap length (level_xs-base xs levels))
points_few xs ys eps eps_rec levels index (suc k) inside =
    let below = points_few xs ys eps eps_rec levels index k (omega arith) in
    let p = level_points xs ys levels k in
    let runs = runs_within (IsLongest p (eps_at eps eps_rec k) p.count) 0
    (length (level_xs xs levels k)) (level_at levels k) (index.each k (omega arith)).greedy in
    let above : level_xs xs levels (suc k) ≡ level_xs xs levels (k + 1) = ap (level_xs xs levels) (omega arith) in
    let count : length (level_xs xs levels (suc k))
    ≡ length (level_at levels k) = ap length (above ∙ level_xs-above xs levels k) ∙ (rw length-map refl) in
    omega (arith, below, runs, count)

each_of : (levels : List (List Segment)) →
    ((k : ℕ) → k < length levels → LevelFits (map saved_run (level_at levels k))) → All LevelFits (saved_levels levels)
each_of [] each = All-nil LevelFits
each_of (level ∷ later) each =
    All-cons LevelFits (map saved_run level)
    (saved_levels later) (each 0 (omega arith)) (each_of later (λ l less. each (suc l) (omega arith)))

pub IsBounded-from_index : (xs ys : List ℕ) (eps eps_rec : ℕ) (levels : List (List Segment)) →
    eps ≤ 1048576 → eps_rec ≤ 1048576 → length xs < 2 ^ 32 → length levels < 2 ^ 32 →
    IsIndexOver xs ys eps eps_rec levels → IsBounded eps eps_rec (saved_levels levels)
IsBounded-from_index xs ys eps eps_rec levels small small_rec few count index = record {
  small = small;
  small_rec = small_rec;
  few = rw length-map count;
  each = each_of levels
      (λ k inside. level_fits (level_points xs ys levels k) (eps_at eps eps_rec k) (level_at levels k)
      (omega (arith, points_few xs ys eps eps_rec levels index k inside)) (index.each k inside));
}
