-- Greedy segments with their cuts show by themselves that they are as few as lines can do.
--
-- Main result: `AreChecked-from_greedy`: what the checker of covers
-- asks is there for greedy segments, one clause after the other.
use Rattle.std.proofs.Common.{◌≡◌, ℕ, ◌+◌, ◌^◌, ◌<◌, ◌≤◌, List, [], ◌∷◌, inl, inr, refl, sym, ◌∙◌, subst, arith}
use Rattle.std.proofs.lemmas.Int.{ints}
use Rattle.std.proofs.lemmas.Bool.{cases_lt}
use Rattle.exact_cross.specs.declared.line.Line.{Line}
use Rattle.exact_cross.specs.declared.segment.Side.{Side}
use Rattle.exact_cross.specs.declared.segment.Side.TheVariants.{Over, Under}
use Rattle.exact_cross.specs.declared.segment.Witness.{Witness}
use Rattle.exact_cross.specs.declared.segment.Segment.{Segment}
use Rattle.exact_cross.specs.Points.{Points, IsAscending}
use Rattle.exact_cross.specs.Covers.{run_end, CutsInto, IsGreedy, IsLongest}
use Rattle.exact_cross.specs.Segments.{starts_of, EachRun, IsSteepSegment, IsFitted}
use Rattle.exact_cross.specs.Witnesses.{IsBeyond, IsWitness}
use Rattle.exact_cross.specs.Cuts.{CutsAt, IsCutOf, HasItsCut}
use Rattle.exact_cross.specs.Checked.{IsInRange, StartsRise, IsCutShort, AreChecked}
use Rattle.exact_cross.proofs.GreedyLemmas.{CutsInto-rises}
use Rattle.exact_cross.proofs.SteepLine.{IsWide, IsWide-from_pair}
use Rattle.exact_cross.proofs.StoredLine.{line_of_pair-level, line_of_pair-rising}

-- what is said of each segment and the end of its run
pub EachRun-implies : (R S : Segment → ℕ → Type 0) → ((segment : Segment) (e : ℕ) → R segment e → S segment e) →
    (to : ℕ) (segments : List Segment) → EachRun R to segments → EachRun S to segments
EachRun-implies R S step to [] runs = tt
EachRun-implies R S step to (segment ∷ later) runs =
    (step segment (run_end (starts_of later) to) runs.0, EachRun-implies R S step to later runs.1)

-- the starts of runs that follow one another rise
pub StartsRise-from_cuts : (R : ℕ → ℕ → Type 0) (starts : List ℕ) (low from to : ℕ) →
    low ≤ from → CutsInto R from to starts → StartsRise low to starts
StartsRise-from_cuts R [] low from to below cuts = tt
StartsRise-from_cuts R (start ∷ later) low from to below cuts =
    let behind = CutsInto-rises R later (run_end later to) to cuts.3 in (
      omega (arith, cuts.0),
      omega (arith, cuts.0, cuts.1, behind),
      StartsRise-from_cuts R later (start + 1) (run_end later to) to (omega (arith, cuts.0, cuts.1)) cuts.3,
    )

-- a run's cut is a witness whose places lie from the run's start on
record IsCutFrom (p : Points) (eps s e : ℕ) (side : Side) (a b : ℕ) : Type 0 where
  from_start : s ≤ a
  rises : a < b
  to_end : b < e
  beyond : IsBeyond p eps side a b e

IsCutFrom-from_cut : (p : Points) (eps s e : ℕ) (side : Side) (a b : ℕ) →
    CutsAt p eps s e side a b → IsCutFrom p eps s e side a b
IsCutFrom-from_cut p eps s e Over a b cut = let pair = cut.0.pair in
    record { from_start = pair.from_start; rises = pair.rises; to_end = pair.to_end; beyond = cut.1 }
IsCutFrom-from_cut p eps s e Under a b cut = let pair = cut.0.pair in
    record { from_start = pair.from_start; rises = pair.rises; to_end = pair.to_end; beyond = cut.1 }

pub IsWitness-from_cut : (p : Points) (eps s e : ℕ) (w : Witness) →
    e < p.count → IsCutOf p eps s e w → IsWitness p eps w × (s ≤ w.p)
IsWitness-from_cut p eps s e w inside cut =
    let parts = IsCutFrom-from_cut p eps s e w.side w.p w.q cut.side in (
      record {
        first = parts.rises;
        second = omega (arith, parts.to_end, cut.place);
        last = omega (arith, cut.place);
        beyond = subst (λ (r : ℕ). IsBeyond p eps w.side w.p w.q r) (sym cut.place) parts.beyond;
      },
      parts.from_start,
    )

pub IsCutShort-from_cut : (p : Points) (eps : ℕ) (segment : Segment) (e : ℕ) →
    HasItsCut p eps p.count segment e → IsCutShort p eps p.count segment e
IsCutShort-from_cut p eps segment e cut = record {
  last = cut.last;
  other = λ before.
      let own = cut.other before in
      let w = own.0 in
      let witness = IsWitness-from_cut p eps segment.start e w before own.2 in
      (w, own.1, witness.0, witness.1, own.2.place);
}

-- the line of a run's steep pair is in range, where the ranks are
pub IsInRange-from_steep : (p : Points) (eps e : ℕ) (segment : Segment) →
    IsAscending p → ((j : ℕ) → j < p.count → p.y j < 2 ^ 32) → eps ≤ 1048576 →
    segment.start < e → e ≤ p.count → IsSteepSegment p eps segment e → IsInRange segment.line
IsInRange-from_steep p eps e segment ascends small bounded some inside steep =
    subst (λ (line : Line). IsInRange line) (sym steep.line) (elim (cases_lt (segment.start + 1) e) [
      | inl more ↦
          let pair = (steep.pair.steep more).pair in
          let wide : IsWide p eps segment.a segment.b =
          IsWide-from_pair p eps segment.a segment.b ascends pair.rises (omega (arith, pair.to_end)) in
          let low = small segment.a (omega (arith, pair.rises, pair.to_end)) in
          let high = small segment.b (omega (arith, pair.to_end)) in
          rw (line_of_pair-rising p eps segment.a segment.b pair.rises) (record {
            positive = wide.positive;
            not_below = omega (arith, ints);
            not_above = omega (arith, ints, low);
            not_too_steep = omega (arith, high);
          })
      | inr one ↦
          let alone = steep.pair.alone (omega arith) in
          let low = small segment.a (omega (arith, alone.0)) in
          rw (line_of_pair-level p eps segment.a segment.b (alone.0 ∙ sym alone.1)) (record {
            positive = omega arith;
            not_below = omega (arith, ints);
            not_above = omega (arith, ints, low);
            not_too_steep = omega arith;
          })
    ])

-- the first start is where the runs begin
first_start : (p : Points) (eps to : ℕ) (segments : List Segment) → IsGreedy p eps 0 to (starts_of segments) → 0 < to →
    (segment : Segment) × (later : List Segment) × (segments ≡ segment ∷ later) × (segment.start ≡ 0)
first_start p eps to [] greedy some = absurd (omega (arith, greedy))
first_start p eps to (segment ∷ later) greedy some = (segment, later, refl, greedy.0)

pub AreChecked-from_greedy : (p : Points) (eps from to : ℕ) (segments : List Segment) → from ≡ 0 → to ≡ p.count →
    IsGreedy p eps from to (starts_of segments) → EachRun (λ segment e. IsInRange segment.line) to segments →
    EachRun (IsFitted p eps) to segments → EachRun (HasItsCut p eps to) to segments → AreChecked p eps segments
AreChecked-from_greedy p eps from to segments at_first at_end greedy in_range fitted cuts =
    let whole : IsGreedy p eps 0 p.count (starts_of segments) =
    subst (λ (n : ℕ). IsGreedy p eps 0 n (starts_of segments)) at_end
    (subst (λ (n : ℕ). IsGreedy p eps n to (starts_of segments)) at_first greedy) in
    record {
      first = first_start p eps p.count segments whole;
      rise = StartsRise-from_cuts (IsLongest p eps p.count) (starts_of segments) 0 0 p.count (omega arith) whole;
      in_range = subst (λ (n : ℕ). EachRun (λ segment e. IsInRange segment.line) n segments) at_end in_range;
      fitted = subst (λ (n : ℕ). EachRun (IsFitted p eps) n segments) at_end fitted;
      cut = EachRun-implies
          (HasItsCut p eps p.count) (IsCutShort p eps p.count) (IsCutShort-from_cut p eps) p.count segments
          (subst (λ (n : ℕ). EachRun (HasItsCut p eps n) n segments) at_end cuts);
    }
