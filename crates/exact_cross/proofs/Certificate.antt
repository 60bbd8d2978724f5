-- Runs that end with a witness are as few as a cover can have, but for those that don't.
--
-- Main results: `IsCoverWithin-from_shown` and `IsLeastCover-from_checked`.
-- No line is within eps at a witness's three places
-- p < q < r, so any cover has a start in p+1..r. The witnesses of
-- different runs leave disjoint such ranges, so any cover has a
-- start for each run that has one.
use Rattle.std.proofs.Common.{◌≡◌, ℕ, ◌+◌, ◌-◌, ◌<◌, ◌≤◌, List, [], ◌∷◌, length, Option, Some, None}
use Rattle.std.proofs.Common.{is_none, Bool, cond, true, false, inl, inr, refl, ap, ◌∙◌, sym, subst, arith}
use Rattle.std.proofs.lemmas.Bool.{cases_lt}
use Rattle.std.proofs.lemmas.List.{length-map}
use Rattle.exact_cross.specs.declared.segment.Witness.{Witness}
use Rattle.exact_cross.specs.declared.segment.Segment.{Segment}
use Rattle.exact_cross.specs.Points.{Points, IsAscending}
use Rattle.exact_cross.specs.Lines.{SomeLineFits, rational}
use Rattle.exact_cross.specs.Covers.{run_end, IsCover}
use Rattle.exact_cross.specs.Segments.{starts_of, EachRun, IsFitted}
use Rattle.exact_cross.specs.Witnesses.{IsWitness}
use Rattle.exact_cross.specs.Checked.{StartsRise, IsCutShort, IsCutIfAny, AreChecked}
use Rattle.exact_cross.specs.Checked.{AreShown, uncut, IsLeastCover, IsCoverWithin}
use Rattle.exact_cross.proofs.WitnessLines.{no_line_at_witness}

-- a run ends after its start, and at the end of all at the latest
pub run_end-within : (from to : ℕ) (starts : List ℕ) →
    from ≤ to → StartsRise from to starts → (from ≤ run_end starts to) × (run_end starts to ≤ to)
run_end-within from to [] here rise = (here, omega arith)
run_end-within from to (start ∷ later) here rise = (rise.0, omega (arith, rise.1))

-- rising starts rise from the first of them
pub StartsRise-from_first : (to from : ℕ) (starts : List ℕ) →
    StartsRise from to starts → StartsRise (run_end starts to) to starts
StartsRise-from_first to from [] rise = tt
StartsRise-from_first to from (start ∷ later) rise = (omega arith, rise.1, rise.2)

-- a run that some line fits, from the cut run's start or before it, ends by the cut's end
ends_by_cut : (p : Points) (eps from end start e : ℕ) (w : Witness) →
    IsAscending p → from ≤ start → IsWitness p eps w → start ≤ w.p → w.r ≡ e → SomeLineFits p eps from end → end ≤ e
ends_by_cut p eps from end start e w ascends before witness inside place fits =
    elim (cases_lt e end) [
      | inl longer ↦
          let first : w.p < w.q = witness.first in
          let second : w.q < w.r = witness.second in
          absurd (no_line_at_witness p eps w ascends witness fits.0
          (fits.1 w.p (omega arith) (omega arith))
          (fits.1 w.q (omega arith) (omega arith)) (fits.1 w.r (omega arith) (omega arith)))
      | inr by_cut ↦ by_cut
    ]

-- the runs of rising starts, each fitted by its line, are a cover
pub IsCover-from_fitted : (p : Points) (eps from to : ℕ) (segments : List Segment) →
    run_end (starts_of segments) to ≡ from →
    StartsRise from to (starts_of segments) → EachRun (IsFitted p eps) to segments →
    IsCover p eps from to (starts_of segments)
IsCover-from_fitted p eps from to [] first rise fitted = sym first
IsCover-from_fitted p eps from to (segment ∷ later) first rise fitted =
    let next = run_end-within (segment.start + 1) to (starts_of later) (omega (arith, rise.1)) rise.2 in
    let end : ℕ = run_end (starts_of later) to in
    let run : SomeLineFits p eps segment.start end = (rational segment.line fitted.0.positive, fitted.0.fits) in (
      first,
      omega (arith, first, next.0),
      subst (λ (n : ℕ). SomeLineFits p eps n end) first run,
      IsCover-from_fitted p eps end to later refl
          (StartsRise-from_first to (segment.start + 1) (starts_of later) rise.2) fitted.1,
    )

-- the last segment has no cut
uncut-more : (segment : Segment) (later : List Segment) → uncut later ≤ uncut (segment ∷ later)
uncut-more segment later = go (is_none segment.cut)
  where
    go : (b : Bool) → uncut later ≤ cond b 1 0 + uncut later
    go true = omega arith
    go false = omega arith

uncut-some : (p : Points) (eps to : ℕ) (segment : Segment) (later : List Segment) →
    EachRun (IsCutIfAny p eps to) to (segment ∷ later) → 1 ≤ uncut (segment ∷ later)
uncut-some p eps to segment [] cuts =
    let none : is_none segment.cut ≡ true = ap is_none (cuts.0.last refl) in
    rw none (omega arith)
uncut-some p eps to segment (next ∷ later) cuts =
    omega (arith, uncut-some p eps to next later cuts.1, uncut-more segment (next ∷ later))

-- one segment more: it has no cut, or the cover's first run ends by its cut
one-more : (p : Points)
    (eps to : ℕ) (segment next : Segment) (later : List Segment) (from other : ℕ) (others : List ℕ) → IsAscending p →
    StartsRise from to (starts_of (segment ∷ next ∷ later)) →
    EachRun (IsCutIfAny p eps to) to (segment ∷ next ∷ later) → IsCover p eps from to (other ∷ others) →
    (cut : Option Witness) →
    segment.cut ≡ cut → length (next ∷ later) + 1 ≤ length (other ∷ others) + uncut (next ∷ later) →
    (run_end others to ≤ next.start → length (next ∷ later) + 1 ≤ length others + uncut (next ∷ later)) →
    length (segment ∷ next ∷ later) + 1 ≤ length (other ∷ others) + uncut (segment ∷ next ∷ later)
one-more p eps to segment next later from other others ascends rise cuts cover None is same after =
    let none : cond {A = ℕ} (is_none segment.cut) 1 0 ≡ 1 = rw is refl in
    omega (arith, same, none)
one-more p eps to segment next later from other others ascends rise cuts cover (Some w) is same after =
    let (witness, inside, place) = cuts.0.shown w is in
    let by_cut = ends_by_cut p eps from
    (run_end others to) segment.start next.start w ascends rise.0 witness inside place cover.2 in
    omega (arith, after by_cut)

-- a cover that begins no later than the shown segments has as many runs
-- as these have cuts, and one more: its first run ends by the first cut
pub at_most-from_cuts :
    (p : Points) (eps to : ℕ) (segment : Segment) (later : List Segment) (from : ℕ) (others : List ℕ) → IsAscending p →
    StartsRise from to (starts_of (segment ∷ later)) → EachRun (IsCutIfAny p eps to) to (segment ∷ later) →
    IsCover p eps from to others → length (segment ∷ later) + 1 ≤ length others + uncut (segment ∷ later)
at_most-from_cuts p eps to segment later from [] ascends rise cuts cover = absurd (omega (arith, rise.0, rise.1, cover))
at_most-from_cuts p eps to segment [] from (other ∷ others) ascends rise cuts cover =
    let none : is_none segment.cut ≡ true = ap is_none (cuts.0.last refl) in
    rw none (omega arith)
at_most-from_cuts p eps to segment (next ∷ later) from (other ∷ others) ascends rise cuts cover =
    one-more p eps to segment next later from other others ascends rise cuts cover segment.cut refl
    (at_most-from_cuts p eps to next later from
    (other ∷ others) ascends (omega (arith, rise.0, rise.2.0), rise.2.1, rise.2.2) cuts.1 cover)
    (λ by_cut. at_most-from_cuts p eps to next later
    (run_end others to) others ascends (by_cut, rise.2.1, rise.2.2) cuts.1 cover.3)

-- the first start is 0, and with no point there is no segment
pub run_end-from_shown : (p : Points) (eps : ℕ) (segments : List Segment) →
    AreShown p eps segments → run_end (starts_of segments) p.count ≡ 0
run_end-from_shown p eps [] shown =
    elim (cases_lt 0 p.count) [
      | inl some ↦ let one = shown.first some in absurd (cc (one.2))
      | inr none ↦ omega arith
    ]
run_end-from_shown p eps (segment ∷ later) shown =
    let one = shown.first (omega (arith, shown.rise.1)) in
    let same : segment ≡ one.0 = cc (one.2) in
    ap (λ (s : Segment). s.start) same ∙ one.3

-- segments that are shown are a cover, and no cover has fewer runs but by those without a cut
pub IsCoverWithin-from_shown : (p : Points) (eps : ℕ) (segments : List Segment) →
    IsAscending p → AreShown p eps segments →
    IsCoverWithin (uncut segments - 1) p eps 0 p.count (starts_of segments)
IsCoverWithin-from_shown p eps segments ascends shown = record {
  cover =
      IsCover-from_fitted p eps 0 p.count segments (run_end-from_shown p eps segments shown) shown.rise shown.fitted;
  within = λ others cover. rw length-map (go segments shown others cover);
}
  where
    go : (segments : List Segment) → AreShown p eps segments →
        (others : List ℕ) → IsCover p eps 0 p.count others → length segments ≤ length others + (uncut segments - 1)
    go [] shown others cover = omega arith
    go (segment ∷ later) shown others cover =
        omega (
          arith,
          at_most-from_cuts p eps p.count segment later 0 others ascends shown.rise shown.cut cover,
          uncut-some p eps p.count segment later shown.cut,
        )

-- Segments are checked exactly where they are shown and all but the last have their cuts.

IsCutIfAny-from_short : (p : Points) (eps to : ℕ) (segment : Segment) (e : ℕ) →
    e ≤ to → IsCutShort p eps to segment e → IsCutIfAny p eps to segment e
IsCutIfAny-from_short p eps to segment e within short = record { last = short.last; shown = shown }
  where
    shown : (w : Witness) → segment.cut ≡ Some w → IsWitness p eps w × (segment.start ≤ w.p) × (w.r ≡ e)
    shown w is = elim (cases_lt e to) [
      | inl less ↦
          let (own, has, witness, inside, place) = short.other less in
          let same : own ≡ w = cc (has, is) in
          subst (λ (v : Witness). IsWitness p eps v × (segment.start ≤ v.p) × (v.r ≡ e)) same (witness, inside, place)
      | inr past ↦
          let none = short.last (omega arith) in
          absurd (cc (none, is))
    ]

cuts-from_short : (p : Points) (eps from to : ℕ) (segments : List Segment) → StartsRise from to (starts_of segments) →
    EachRun (IsCutShort p eps to) to segments → EachRun (IsCutIfAny p eps to) to segments
cuts-from_short p eps from to [] rise cuts = tt
cuts-from_short p eps from to (segment ∷ later) rise cuts =
    let within = (run_end-within (segment.start + 1) to (starts_of later) (omega (arith, rise.1)) rise.2).1 in (
      IsCutIfAny-from_short p eps to segment (run_end (starts_of later) to) within cuts.0,
      cuts-from_short p eps (segment.start + 1) to later rise.2 cuts.1,
    )

uncut-from_short : (p : Points) (eps from to : ℕ) (segments : List Segment) →
    StartsRise from to (starts_of segments) → EachRun (IsCutShort p eps to) to segments → uncut segments ≤ 1
uncut-from_short p eps from to [] rise cuts = omega arith
uncut-from_short p eps from to (segment ∷ []) rise cuts =
    let none : is_none segment.cut ≡ true = ap is_none (cuts.0.last refl) in
    rw none (omega arith)
uncut-from_short p eps from to (segment ∷ next ∷ later) rise cuts =
    let has = cuts.0.other rise.2.1 in
    let some : cond {A = ℕ} (is_none segment.cut) 1 0 ≡ 0 = rw (has.1) refl in
    omega (arith, some, uncut-from_short p eps (segment.start + 1) to (next ∷ later) rise.2 cuts.1)

cut-from_shown : (p : Points) (eps to : ℕ) (segment next : Segment) (later : List Segment) →
    next.start < to → EachRun (IsCutIfAny p eps to) to (segment ∷ next ∷ later) →
    uncut (segment ∷ next ∷ later) ≤ 1 →
    (cut : Option Witness) → segment.cut ≡ cut → IsCutShort p eps to segment next.start
cut-from_shown p eps to segment next later inside cuts few None is =
    let none : cond {A = ℕ} (is_none segment.cut) 1 0 ≡ 1 = rw is refl in
    absurd (omega (arith, few, none, uncut-some p eps to next later cuts.1))
cut-from_shown p eps to segment next later inside cuts few (Some w) is =
    let (witness, from_start, place) = cuts.0.shown w is in
    record { last = λ same. absurd (omega (arith, same, inside)); other = λ less. (w, is, witness, from_start, place) }

cuts-from_shown : (p : Points) (eps from to : ℕ) (segments : List Segment) →
    StartsRise from to (starts_of segments) → EachRun (IsCutIfAny p eps to) to segments → uncut segments ≤ 1
    → EachRun (IsCutShort p eps to) to segments
cuts-from_shown p eps from to [] rise cuts few = tt
cuts-from_shown p eps from to (segment ∷ []) rise cuts few =
    (record { last = cuts.0.last; other = λ less. absurd (omega (arith, less)) }, tt)
cuts-from_shown p eps from to (segment ∷ next ∷ later) rise cuts few = (
  cut-from_shown p eps to segment next later rise.2.1 cuts few segment.cut refl,
  cuts-from_shown p eps
      (segment.start + 1) to (next ∷ later) rise.2 cuts.1 (omega (arith, few, uncut-more segment (next ∷ later))),
)

pub AreShown-from_checked : (p : Points) (eps : ℕ) (segments : List Segment) →
    AreChecked p eps segments → AreShown p eps segments × (uncut segments ≤ 1)
AreShown-from_checked p eps segments checked = (
  record {
    first = checked.first;
    rise = checked.rise;
    in_range = checked.in_range;
    fitted = checked.fitted;
    cut = cuts-from_short p eps 0 p.count segments checked.rise checked.cut;
  },
  uncut-from_short p eps 0 p.count segments checked.rise checked.cut,
)

pub AreChecked-from_shown : (p : Points) (eps : ℕ) (segments : List Segment) →
    AreShown p eps segments → uncut segments ≤ 1 → AreChecked p eps segments
AreChecked-from_shown p eps segments shown few = record {
  first = shown.first;
  rise = shown.rise;
  in_range = shown.in_range;
  fitted = shown.fitted;
  cut = cuts-from_shown p eps 0 p.count segments shown.rise shown.cut few;
}

-- segments that are checked are a cover, and no cover has fewer runs
pub IsLeastCover-from_checked : (p : Points) (eps : ℕ) (segments : List Segment) →
    IsAscending p → AreChecked p eps segments →
    IsLeastCover p eps 0 p.count (starts_of segments)
IsLeastCover-from_checked p eps segments ascends checked =
    let (shown, few) = AreShown-from_checked p eps segments checked in
    let close = IsCoverWithin-from_shown p eps segments ascends shown in
    record { cover = close.cover; least = λ others cover. omega (arith, close.within others cover, few) }
