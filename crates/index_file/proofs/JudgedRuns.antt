-- Saved runs are those of the segmentation exactly where each is judged right and the first of them starts at 0.
--
-- Main results: `IsSavedSegmentation-from_judged` and `judged-from_saved`.
-- A run and its end have one segment, whose line is that of
-- the steep pair. No line goes on where the place after the run lies over its steep pair or under its flat one.
use Rattle.std.proofs.Common.{◌≡◌, ℕ, zero, suc, ◌+◌, ◌-◌, ◌<◌, ◌≤◌, List, [], ◌∷◌, length, map, drop}
use Rattle.std.proofs.Common.{get_or, Option, None, Some, inl, inr, refl, sym, ap, ◌∙◌, subst, arith}
use Rattle.std.proofs.lemmas.Bool.{cases_lt}
use Rattle.cut_witness.specs.Pairs.{HasSteepPair}
use Rattle.exact_cross.specs.declared.segment.Side.{Side}
use Rattle.exact_cross.specs.declared.segment.Side.TheVariants.{Over as OverSide, Under as UnderSide}
use Rattle.exact_cross.specs.declared.segment.Witness.{Witness}
use Rattle.exact_cross.specs.declared.segment.Segment.{Segment}
use Rattle.exact_cross.specs.Points.{Points, IsAscending}
use Rattle.exact_cross.specs.Lines.{SomeLineFits}
use Rattle.exact_cross.specs.Covers.{run_end, IsGreedy, IsLongest}
use Rattle.exact_cross.specs.Steep.{IsSteepPair, IsSteepOf, line_of_pair}
use Rattle.exact_cross.specs.Witnesses.{IsOver}
use Rattle.exact_cross.specs.Segments.{starts_of, EachRun, IsSteepSegment}
use Rattle.exact_cross.specs.Cuts.{CutsAt, IsCutOf, HasItsCut}
use Rattle.exact_cross.proofs.CallerLemmas.{IsOver-no_line, IsUnder-no_line, sides_exclude, IsSteepPair-unique}
use Rattle.index_file.specs.declared.saved.SavedRun.{SavedRun}
use Rattle.index_file.specs.declared.saved.SavedCut.{SavedCut}
use Rattle.index_file.specs.declared.saved.SavedCut.TheVariants.{Last, Over, Under}
use Rattle.index_file.specs.Spelled.{side_cut, saved_cut, saved_run}
use Rattle.index_file.specs.Judged.{IsSavedSegmentation, first_start, EndsBy, HasSavedCut, IsJudged, AreJudged}

-- ---- the segments that saved runs stand for

abbrev cut_of : SavedCut → ℕ → ℕ → ℕ → Option Witness
cut_of Last a b e = None
cut_of Over a b e = Some (record { p = a; q = b; r = e; side = OverSide })
cut_of (Under c d) a b e = Some (record { p = c; q = d; r = e; side = UnderSide })

abbrev segment_of : Points → ℕ → SavedRun → ℕ → Segment
segment_of p eps run e =
    record {
      start = run.start;
      a = run.a;
      b = run.b;
      line = line_of_pair p eps run.a run.b;
      cut = cut_of run.cut run.a run.b e;
    }

abbrev segments_of : Points → ℕ → List SavedRun → List Segment
segments_of p eps [] = []
segments_of p eps (run ∷ later) = segment_of p eps run (first_start later p.count) ∷ segments_of p eps later

saved_cut-cut_of : (cut : SavedCut) (a b e : ℕ) → saved_cut (cut_of cut a b e) ≡ cut
saved_cut-cut_of Last a b e = refl
saved_cut-cut_of Over a b e = refl
saved_cut-cut_of (Under c d) a b e = refl

map-segments_of : (p : Points) (eps : ℕ) (runs : List SavedRun) → runs ≡ map saved_run (segments_of p eps runs)
map-segments_of p eps [] = refl
map-segments_of p eps (run ∷ later) =
    let with_cut : SavedCut → SavedRun = λ cut. record { start = run.start; a = run.a; b = run.b; cut = cut } in
    let e : ℕ = first_start later p.count in
    let here : run ≡ with_cut (saved_cut (cut_of run.cut run.a run.b e)) =
    ap with_cut (sym (saved_cut-cut_of run.cut run.a run.b e)) in
    ap (λ (r : SavedRun). r ∷ later) here
    ∙ ap (λ (l : List SavedRun). saved_run (segment_of p eps run e) ∷ l) (map-segments_of p eps later)

run_end-segments_of : (p : Points) (eps : ℕ) (runs : List SavedRun) →
    run_end (starts_of (segments_of p eps runs)) p.count ≡ first_start runs p.count
run_end-segments_of p eps [] = refl
run_end-segments_of p eps (run ∷ later) = refl

pub first-within : (p : Points) (eps : ℕ) (runs : List SavedRun) →
    AreJudged p eps runs → first_start runs p.count ≤ p.count
first-within p eps [] judged = omega arith
first-within p eps (run ∷ later) judged = omega (arith, judged.0.some, first-within p eps later judged.1)

-- ---- why a run ends

steep-from : (p : Points) (eps s e a b : ℕ) → s < e → a < b → IsSteepOf p eps s e a b → IsSteepPair p eps s e a b
steep-from p eps s e a b some rises steep = elim (cases_lt (s + 1) e) [
  | inl more ↦ steep.steep more
  | inr single ↦ let one = steep.alone (omega arith) in absurd (omega (arith, one.0, one.1))
]

-- no line fits the run with the place after it
no_line : (p : Points) (eps s e a b : ℕ) (cut : SavedCut) →
    IsAscending p → e < p.count → s < e → HasSteepPair p eps s e a b → EndsBy p eps s e a b cut →
    SomeLineFits p eps s (e + 1) → ⊥
no_line p eps s e a b Last ascends inside some steep ends longer = ends
no_line p eps s e a b Over ascends inside some steep ends longer =
    let pair = steep-from p eps s e a b some ends.first steep.pair in
    IsOver-no_line p eps s e a b ascends inside pair.pair ends.beyond longer
no_line p eps s e a b (Under c d) ascends inside some steep ends longer =
    IsUnder-no_line p eps s e c d ascends inside ends.1.pair.pair ends.2.beyond longer

-- and the cut is the run's
has_cut : (p : Points) (eps s e a b : ℕ) (cut : SavedCut) →
    IsAscending p → e < p.count → s < e → HasSteepPair p eps s e a b → EndsBy p eps s e a b cut →
    (w : Witness) × (cut_of cut a b e ≡ Some w) × IsCutOf p eps s e w
has_cut p eps s e a b Last ascends inside some steep ends = absurd ends
has_cut p eps s e a b Over ascends inside some steep ends =
    let w : Witness = record { p = a; q = b; r = e; side = OverSide } in
    let pair = steep-from p eps s e a b some ends.first steep.pair in (
      w,
      refl,
      record {
        place = refl;
        side = (
          pair,
          ends.beyond,
          λ c d flat under. sides_exclude p eps s e a b c d
              (record { ascends = ascends; inside = inside; fits = steep.fits; steep = pair; flat = flat })
              ends.beyond under,
        );
      },
    )
has_cut p eps s e a b (Under c d) ascends inside some steep ends =
    let w : Witness = record { p = c; q = d; r = e; side = UnderSide } in (
      w,
      refl,
      record {
        place = refl;
        side = (
          ends.1.pair,
          ends.2.beyond,
          λ k l pair over. sides_exclude p eps s e k l c d
              (record { ascends = ascends; inside = inside; fits = steep.fits; steep = pair; flat = ends.1.pair })
              over ends.2.beyond,
        );
      },
    )

-- ---- runs that are judged right

longest : (p : Points) (eps : ℕ) (run : SavedRun) (e : ℕ) →
    IsAscending p → IsJudged p eps run e → IsLongest p eps p.count run.start e
longest p eps run e ascends judged = record {
  fits = judged.steep.fits;
  no_longer = λ before longer. no_line p eps run.start e run.a run.b run.cut ascends before judged.some judged.steep
      (judged.cut.other before) longer;
}

its_cut : (p : Points) (eps : ℕ) (run : SavedRun) (e : ℕ) →
    IsAscending p → IsJudged p eps run e → HasItsCut p eps p.count (segment_of p eps run e) e
its_cut p eps run e ascends judged = record {
  last = λ at_end. ap (λ (cut : SavedCut). cut_of cut run.a run.b e) (judged.cut.last at_end);
  other = λ before.
      has_cut p eps run.start e run.a run.b run.cut ascends before judged.some judged.steep (judged.cut.other before);
}

greedy_of : (p : Points) (eps : ℕ) (runs : List SavedRun) → IsAscending p → AreJudged p eps runs →
    IsGreedy p eps (first_start runs p.count) p.count (starts_of (segments_of p eps runs))
greedy_of p eps [] ascends judged = refl
greedy_of p eps (run ∷ later) ascends judged =
    rw (run_end-segments_of p eps later) (
      refl,
      judged.0.some,
      longest p eps run (first_start later p.count) ascends judged.0,
      greedy_of p eps later ascends judged.1,
    )

each_of : (R : Segment → ℕ → Type 0) (p : Points) (eps : ℕ) (runs : List SavedRun) →
    ((run : SavedRun) (e : ℕ) → IsJudged p eps run e → R (segment_of p eps run e) e) →
    AreJudged p eps runs → EachRun R p.count (segments_of p eps runs)
each_of R p eps [] one judged = tt
each_of R p eps (run ∷ later) one judged = (
  subst (λ (e : ℕ). R (segment_of p eps run (first_start later p.count)) e)
      (sym (run_end-segments_of p eps later)) (one run (first_start later p.count) judged.0),
  each_of R p eps later one judged.1,
)

pub IsSavedSegmentation-from_judged : (p : Points) (eps : ℕ) (runs : List SavedRun) →
    IsAscending p → first_start runs p.count ≡ 0 → AreJudged p eps runs → IsSavedSegmentation p eps runs
IsSavedSegmentation-from_judged p eps runs ascends first judged = record {
  segments = segments_of p eps runs;
  segmentation = record {
    greedy = subst (λ (from : ℕ). IsGreedy p eps from p.count (starts_of (segments_of p eps runs))) first
        (greedy_of p eps runs ascends judged);
    steep = each_of
        (IsSteepSegment p eps) p eps runs (λ run e right. record { pair = right.steep.pair; line = refl }) judged;
    cuts = each_of (HasItsCut p eps p.count) p eps runs (λ run e right. its_cut p eps run e ascends right) judged;
  };
  same = map-segments_of p eps runs;
}

-- ---- and the other way

ends_by : (p : Points) (eps s e a b : ℕ) (side : Side) (c d : ℕ) →
    e < p.count → SomeLineFits p eps s e → IsSteepOf p eps s e a b → CutsAt p eps s e side c d →
    EndsBy p eps s e a b (side_cut side c d)
ends_by p eps s e a b OverSide c d inside fits steep cut =
    let pair = cut.0.pair in
    let own = steep.steep (omega (arith, pair.from_start, pair.rises, pair.to_end)) in
    let same = IsSteepPair-unique p eps s e c d a b cut.0 own in
    let over : IsOver p eps a b e =
    subst (λ (k : ℕ). IsOver p eps a k e) same.1 (subst (λ (k : ℕ). IsOver p eps k d e) same.0 cut.1) in
    record { first = own.pair.rises; second = own.pair.to_end; last = inside; beyond = over }
ends_by p eps s e a b UnderSide c d inside fits steep cut =
    let pair = cut.0.pair in (
      omega (arith, pair.from_start, pair.rises, pair.to_end),
      record { fits = fits; pair = cut.0 },
      record { first = pair.rises; second = pair.to_end; last = inside; beyond = cut.1 },
    )

saved_cut_of : (p : Points) (eps : ℕ) (segment : Segment) (e : ℕ) → SomeLineFits p eps segment.start e →
    IsSteepOf p eps segment.start e segment.a segment.b → HasItsCut p eps p.count segment e →
    HasSavedCut p eps (saved_run segment) e
saved_cut_of p eps segment e fits steep cut = record {
  last = λ at_end. ap saved_cut (cut.last at_end);
  other = λ before.
      let (w, is, own) = cut.other before in
      subst (λ (c : Option Witness). EndsBy p eps segment.start e segment.a segment.b (saved_cut c)) (sym is)
      (ends_by p eps segment.start e segment.a segment.b w.side w.p w.q before fits steep own.side);
}

first_start-saved : (segments : List Segment) (to : ℕ) →
    first_start (map saved_run segments) to ≡ run_end (starts_of segments) to
first_start-saved [] to = refl
first_start-saved (segment ∷ later) to = refl

judged_of : (p : Points) (eps from : ℕ) (segments : List Segment) →
    IsGreedy p eps from p.count (starts_of segments) → EachRun (IsSteepSegment p eps) p.count segments →
    EachRun (HasItsCut p eps p.count) p.count segments → AreJudged p eps (map saved_run segments)
judged_of p eps from [] greedy steep cuts = tt
judged_of p eps from (segment ∷ later) greedy steep cuts =
    let e : ℕ = run_end (starts_of later) p.count in
    let start : segment.start ≡ from = greedy.0 in
    let fits :
    SomeLineFits p eps segment.start e = subst (λ (s : ℕ). SomeLineFits p eps s e) (sym start) greedy.2.fits in
    let judged : IsJudged p eps (saved_run segment) e = record {
      some = omega (arith, greedy.0, greedy.1);
      steep = record { fits = fits; pair = steep.0.pair };
      cut = saved_cut_of p eps segment e fits steep.0.pair cuts.0;
    } in (
      subst (λ (n : ℕ). IsJudged p eps (saved_run segment) n) (sym (first_start-saved later p.count)) judged,
      judged_of p eps e later greedy.3 steep.1 cuts.1,
    )

first_of : (p : Points) (eps : ℕ) (segments : List Segment) →
    IsGreedy p eps 0 p.count (starts_of segments) → first_start (map saved_run segments) p.count ≡ 0
first_of p eps [] greedy = sym greedy
first_of p eps (segment ∷ later) greedy = greedy.0

pub judged-from_saved : (p : Points) (eps : ℕ) (runs : List SavedRun) →
    IsSavedSegmentation p eps runs → (first_start runs p.count ≡ 0) × AreJudged p eps runs
judged-from_saved p eps runs saved =
    let whole = saved.segmentation in (
      ap (λ (l : List SavedRun). first_start l p.count) saved.same ∙ first_of p eps saved.segments whole.greedy,
      subst (AreJudged p eps) (sym saved.same) (judged_of p eps 0 saved.segments whole.greedy whole.steep whole.cuts),
    )

-- runs start at places
starts-inside : (p : Points) (eps k : ℕ) (runs : List SavedRun) (none : SavedRun) →
    AreJudged p eps runs → k < length runs → (get_or runs k none).start < p.count
starts-inside p eps k [] none judged inside = absurd (omega arith)
starts-inside p eps zero (run ∷ later) none judged inside =
    omega (arith, judged.0.some, first-within p eps later judged.1)
starts-inside p eps (suc k) (run ∷ later) none judged inside = starts-inside p eps k later none judged.1 (omega arith)

pub starts_inside : (p : Points) (eps : ℕ) (runs : List SavedRun) →
    IsSavedSegmentation p eps runs → (k : ℕ) (none : SavedRun) → k < length runs → (get_or runs k none).start < p.count
starts_inside p eps runs saved k none inside =
    starts-inside p eps k runs none (judged-from_saved p eps runs saved).1 inside

-- each run is judged right, the one at place k too
judged_at : (p : Points) (eps k : ℕ) (runs : List SavedRun) (none : SavedRun) → k < length runs → AreJudged p eps runs →
    IsJudged p eps (get_or runs k none) (first_start (drop (suc k) runs) p.count)
judged_at p eps k [] none inside judged = absurd (omega arith)
judged_at p eps zero (run ∷ later) none inside judged = judged.0
judged_at p eps (suc k) (run ∷ later) none inside judged = judged_at p eps k later none (omega arith) judged.1

-- and the one before the place i, which ends where the next one begins
pub judged_before : (p : Points) (eps i e : ℕ) (runs : List SavedRun) (none : SavedRun) →
    0 < i → i ≤ length runs → e ≡ first_start (drop i runs) p.count → AreJudged p eps runs →
    IsJudged p eps (get_or runs (i - 1) none) e
judged_before p eps i e runs none some inside end judged =
    let more : suc (i - 1) ≡ i = omega arith in
    let next : first_start (drop (suc (i - 1)) runs) p.count ≡ e = rw more (sym end) in
    subst (λ (n : ℕ). IsJudged p eps (get_or runs (i - 1) none) n) next
    (judged_at p eps (i - 1) runs none (omega arith) judged)
