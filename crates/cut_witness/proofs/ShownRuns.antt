-- Segments are shown where each of their runs is, and the first begins at 0; and how many of them have no cut.
use Rattle.std.proofs.Common.{◌≡◌, ℕ, zero, suc, ◌+◌, ◌-◌, ◌<◌, ◌≤◌, List, []}
use Rattle.std.proofs.Common.{◌∷◌, length, drop, get_or, refl, sym, subst, arith}
use Rattle.exact_cross.specs.declared.segment.Segment.{Segment}
use Rattle.exact_cross.specs.Points.{Points}
use Rattle.exact_cross.specs.Covers.{run_end}
use Rattle.exact_cross.specs.Segments.{starts_of, EachRun, IsFitted}
use Rattle.exact_cross.specs.Checked.{IsInRange, IsCutIfAny, StartsRise, AreShown}
use Rattle.exact_cross.proofs.CallerLemmas.{run_end-within}
use Rattle.cut_witness.specs.Runs.{IsShownRun}

-- starts that rise from one place rise from each one before the first of them
StartsRise-sooner : (from to : ℕ) (starts : List ℕ) →
    from ≤ run_end starts to → StartsRise (run_end starts to) to starts → StartsRise from to starts
StartsRise-sooner from to [] before rise = tt
StartsRise-sooner from to (start ∷ later) before rise = (before, rise.1, rise.2)

-- runs of a place or more rise
StartsRise-from_runs : (p : Points) (eps to : ℕ) (segments : List Segment) → EachRun (IsShownRun p eps to) to segments →
    StartsRise (run_end (starts_of segments) to) to (starts_of segments) × (run_end (starts_of segments) to ≤ to)
StartsRise-from_runs p eps to [] runs = (tt, omega arith)
StartsRise-from_runs p eps to (segment ∷ later) runs =
    let more = StartsRise-from_runs p eps to later runs.1 in
    let some : segment.start < run_end (starts_of later) to = runs.0.some in
    let below : segment.start < to = omega (arith, more.1) in
    ((omega arith, below, StartsRise-sooner (segment.start + 1) to (starts_of later) (omega arith) more.0), omega arith)

-- the parts of each run
in_range-from_runs : (p : Points) (eps to : ℕ) (segments : List Segment) → EachRun (IsShownRun p eps to) to segments →
    EachRun (λ segment e. IsInRange segment.line) to segments
in_range-from_runs p eps to [] runs = tt
in_range-from_runs p eps to (segment ∷ later) runs = (runs.0.in_range, in_range-from_runs p eps to later runs.1)

fitted-from_runs : (p : Points) (eps to : ℕ) (segments : List Segment) →
    EachRun (IsShownRun p eps to) to segments → EachRun (IsFitted p eps) to segments
fitted-from_runs p eps to [] runs = tt
fitted-from_runs p eps to (segment ∷ later) runs = (runs.0.fitted, fitted-from_runs p eps to later runs.1)

cut-from_runs : (p : Points) (eps to : ℕ) (segments : List Segment) →
    EachRun (IsShownRun p eps to) to segments → EachRun (IsCutIfAny p eps to) to segments
cut-from_runs p eps to [] runs = tt
cut-from_runs p eps to (segment ∷ later) runs = (runs.0.cut, cut-from_runs p eps to later runs.1)

-- and the runs from their parts
runs-from_parts : (p : Points) (eps from to : ℕ) (segments : List Segment) → StartsRise from to (starts_of segments) →
    EachRun (λ segment e. IsInRange segment.line) to segments →
    EachRun (IsFitted p eps) to segments → EachRun (IsCutIfAny p eps to) to segments →
    EachRun (IsShownRun p eps to) to segments
runs-from_parts p eps from to [] rise in_range fitted cut = tt
runs-from_parts p eps from to (segment ∷ later) rise in_range fitted cut =
    let next = run_end-within (segment.start + 1) to (starts_of later) (omega (arith, rise.1)) rise.2 in (
      record { some = omega (arith, next.0); in_range = in_range.0; fitted = fitted.0; cut = cut.0 },
      runs-from_parts p eps (segment.start + 1) to later rise.2 in_range.1 fitted.1 cut.1,
    )

first-from_end : (p : Points) (segments : List Segment) → run_end (starts_of segments) p.count ≡ 0 →
    0 < p.count → (segment : Segment) × (later : List Segment) × (segments ≡ segment ∷ later) × (segment.start ≡ 0)
first-from_end p [] end some = absurd (omega arith)
first-from_end p (segment ∷ later) end some = (segment, later, refl, end)

pub AreShown-from_runs : (p : Points) (eps : ℕ) (segments : List Segment) → run_end (starts_of segments) p.count ≡ 0 →
    EachRun (IsShownRun p eps p.count) p.count segments → AreShown p eps segments
AreShown-from_runs p eps segments end runs = record {
  first = first-from_end p segments end;
  rise = StartsRise-sooner 0 p.count
      (starts_of segments) (omega arith) (StartsRise-from_runs p eps p.count segments runs).0;
  in_range = in_range-from_runs p eps p.count segments runs;
  fitted = fitted-from_runs p eps p.count segments runs;
  cut = cut-from_runs p eps p.count segments runs;
}

pub runs-from_shown : (p : Points) (eps : ℕ) (segments : List Segment) →
    AreShown p eps segments → EachRun (IsShownRun p eps p.count) p.count segments
runs-from_shown p eps segments shown =
    runs-from_parts p eps 0 p.count segments shown.rise shown.in_range shown.fitted shown.cut

-- each run is shown, the one at place k too
run_at : (p : Points) (eps to k : ℕ) (segments : List Segment) (none : Segment) →
    k < length segments → EachRun (IsShownRun p eps to) to segments →
    IsShownRun p eps to (get_or segments k none) (run_end (starts_of (drop (suc k) segments)) to)
run_at p eps to k [] none inside runs = absurd (omega arith)
run_at p eps to zero (segment ∷ later) none inside runs = runs.0
run_at p eps to (suc k) (segment ∷ later) none inside runs = run_at p eps to k later none (omega arith) runs.1

-- and the one before the place i, which ends where the next one begins
pub run_before : (p : Points) (eps to i e : ℕ) (segments : List Segment) (none : Segment) →
    0 < i → i ≤ length segments →
    e ≡ run_end (starts_of (drop i segments)) to → EachRun (IsShownRun p eps to) to segments →
    IsShownRun p eps to (get_or segments (i - 1) none) e
run_before p eps to i e segments none some inside end runs =
    let more : suc (i - 1) ≡ i = omega arith in
    let next : run_end (starts_of (drop (suc (i - 1)) segments)) to ≡ e = rw more (sym end) in
    subst (λ (n : ℕ). IsShownRun p eps to (get_or segments (i - 1) none) n) next
    (run_at p eps to (i - 1) segments none (omega arith) runs)
