-- The segments of one level: how many there are, and the run of each.
--
-- Main results: `runs-halve`: since two points always have a
-- line, each run but the last has two places or more; `run_at`: a
-- segment's run begins at its start and ends at the next segment's;
-- `predecessor_in_run`: where the run's first x is the last
-- one at or before a question, the predecessor of the question stands in the run.
use Rattle.std.proofs.Common.{◌≡◌, inl, inr, ℕ, zero, suc, ◌+◌, ◌*◌, ◌<◌, ◌≤◌, List, [], ◌∷◌}
use Rattle.std.proofs.Common.{length, slice_index, slice_index_or, refl, ap, ◌∙◌, subst, arith}
use Rattle.std.proofs.lemmas.Bool.{cases_lt}
use Rattle.std.proofs.lemmas.List.{length-map, get_or-map}
use Rattle.std.specs.List.Sorted.{IsStrictlyIncreasing}
use Rattle.exact_cross.specs.declared.segment.Segment.{Segment}
use Rattle.exact_cross.specs.Points.{Points, IsAscending}
use Rattle.exact_cross.specs.Lines.{SomeLineFits}
use Rattle.exact_cross.specs.Covers.{run_end, CutsInto, IsGreedy, IsLongest}
use Rattle.exact_cross.specs.Segments.{starts_of, EachRun}
use Rattle.exact_cross.proofs.CallerLemmas.{CutsInto-rises, some_line-two_places, slice_index-rises}
use Rattle.window_search.specs.Searches.{IsPredecessor}
use Rattle.exact_cross.specs.IndexLevels.{first_xs}
use Rattle.levels.specs.Lookups.{HasRun}

-- a run that isn't the last one has two places or more
pub two_places : (p : Points) (eps to s e : ℕ) →
    IsAscending p → to ≤ p.count → s < e → e < to → IsLongest p eps to s e → s + 2 ≤ e
two_places p eps to s e ascends inside some before longest = elim (cases_lt e (s + 2)) [
  | inl short ↦ absurd
      (longest.no_longer before
      (subst (λ (n : ℕ). SomeLineFits p eps s n) (omega arith) (some_line-two_places p eps s ascends (omega arith))))
  | inr enough ↦ enough
]

-- a run that isn't the last one has so many places
abbrev pub IsLong : ℕ → ℕ → ℕ → ℕ → Type 0
IsLong least to s e = e < to → s + least ≤ e

pub cuts_long : (p : Points) (eps to from least : ℕ) (starts : List ℕ) →
    ((s e : ℕ) → s < e → e < to → IsLongest p eps to s e → s + least ≤ e) →
    IsGreedy p eps from to starts → CutsInto (IsLong least to) from to starts
cuts_long p eps to from least [] long greedy = greedy
cuts_long p eps to from least (start ∷ later) long greedy = (
  greedy.0,
  greedy.1,
  λ before. long from (run_end later to) greedy.1 before greedy.2,
  cuts_long p eps to (run_end later to) least later long greedy.3,
)

pub runs-count : (least to from : ℕ) (starts : List ℕ) →
    0 < length starts → CutsInto (IsLong least to) from to starts → least * length starts + from + 1 ≤ to + least
runs-count least to from [] some cuts = absurd (omega arith)
runs-count least to from (start ∷ []) some cuts = omega (arith, cuts.1)
runs-count least to from (start ∷ next ∷ later) some cuts =
    let behind = cuts.3 in
    let inside : next < to =
    omega (arith, behind.0, behind.1, CutsInto-rises (IsLong least to) later (run_end later to) to behind.3) in
    omega (arith, cuts.2 inside, runs-count least to next (next ∷ later) (omega arith) behind)

runs-halve : (p : Points) (eps to from : ℕ) (starts : List ℕ) →
    IsAscending p → to ≤ p.count → IsGreedy p eps from to starts → 2 * length starts + from ≤ to + 1
runs-halve p eps to from [] ascends inside greedy = omega (arith, greedy)
runs-halve p eps to from (start ∷ later) ascends inside greedy =
    omega (
      arith,
      runs-count 2 to from (start ∷ later) (omega arith)
          (cuts_long p eps to from 2 (start ∷ later)
          (λ s e some before longest. two_places p eps to s e ascends inside some before longest) greedy),
    )

pub starts_count : (segments : List Segment) → length (starts_of segments) ≡ length segments
starts_count segments = rw length-map refl

pub first_xs-count : (xs : List ℕ) (segments : List Segment) → length (first_xs xs segments) ≡ length segments
first_xs-count xs segments = rw length-map refl

-- no more runs than places, and one where there is a place
pub runs_within : (C : ℕ → ℕ → Type 0) (to : ℕ) (segments : List Segment) →
    CutsInto C 0 to (starts_of segments) → (length segments ≤ to) × (0 < to → 0 < length segments)
runs_within C to segments cuts =
    (omega (arith, count 0 (starts_of segments) cuts, starts_count segments), some segments cuts)
  where
    count : (from : ℕ) (starts : List ℕ) → CutsInto C from to starts → length starts + from ≤ to
    count from [] cuts = omega (arith, cuts)
    count from (start ∷ later) cuts = omega (arith, cuts.1, count (run_end later to) later cuts.3)

    some : (segments : List Segment) → CutsInto C 0 to (starts_of segments) → 0 < to → 0 < length segments
    some [] cuts places = absurd (omega (arith, cuts))
    some (segment ∷ later) cuts places = omega arith

-- fewer greedy runs than points, where there are two points or more
pub fewer_runs : (p : Points) (eps : ℕ) (segments : List Segment) →
    IsAscending p → IsGreedy p eps 0 p.count (starts_of segments) → 2 * length segments ≤ p.count + 1
fewer_runs p eps segments ascends greedy =
    omega (arith, runs-halve p eps p.count 0 (starts_of segments) ascends (omega arith) greedy, starts_count segments)

-- the end of the run of the segment at this place
abbrev pub end_at : List Segment → ℕ → ℕ → ℕ
end_at [] run to = to
end_at (segment ∷ later) zero to = run_end (starts_of later) to
end_at (segment ∷ later) (suc run) to = end_at later run to

-- a run's segment, and what is known of it
pub record IsRun (R : Segment → ℕ → Type 0)
    (from to : ℕ) (segments : List Segment) (run : ℕ) (segment : Segment) (e : ℕ) : Type 0 where
  pub holds : R segment e
  pub from_first : from ≤ segment.start
  pub some : segment.start < e
  pub within : e ≤ to
  pub next : (d : Segment) → run + 1 < length segments → e ≡ (slice_index_or segments (run + 1) d).start
  pub last : length segments ≡ run + 1 → e ≡ to

pub run_at : (R : Segment → ℕ → Type 0)
    (C : ℕ → ℕ → Type 0) (from to : ℕ) (segments : List Segment) (run : ℕ) (d : Segment) → run < length segments →
    CutsInto C from to (starts_of segments) →
    EachRun R to segments → IsRun R from to segments run (slice_index_or segments run d) (end_at segments run to)
run_at R C from to [] run d inside cuts runs = absurd (omega arith)
run_at R C from to (segment ∷ later) zero d inside cuts runs = record {
  holds = runs.0;
  from_first = omega (arith, cuts.0);
  some = omega (arith, cuts.0, cuts.1);
  within = CutsInto-rises C (starts_of later) (run_end (starts_of later) to) to cuts.3;
  next = second later;
  last = last_of later;
}
  where
    second : (later : List Segment) (d : Segment) → 0 + 1 < length (segment ∷ later) →
        run_end (starts_of later) to ≡ (slice_index_or (segment ∷ later) (0 + 1) d).start
    second [] d more = absurd (omega arith)
    second (next ∷ later) d more = refl

    last_of : (later : List Segment) → length (segment ∷ later) ≡ 0 + 1 → run_end (starts_of later) to ≡ to
    last_of [] one = refl
    last_of (next ∷ later) one = absurd (omega arith)
run_at R C from to (segment ∷ later) (suc run) d inside cuts runs =
    let behind = run_at R C (run_end (starts_of later) to) to later run d (omega arith) cuts.3 runs.1 in
    record {
      holds = behind.holds;
      from_first = omega (arith, behind.from_first, cuts.1);
      some = behind.some;
      within = behind.within;
      next = λ d more.
          let shift : suc (run + 1) ≡ suc run + 1 = omega arith in
          behind.next d (omega arith) ∙ ap (λ (k : ℕ). (slice_index_or (segment ∷ later) k d).start) shift;
      last = λ count. behind.last (omega arith);
    }

pub HasRun-at : (segments : List Segment) (run to : ℕ) (d : Segment) →
    run < length segments → HasRun segments to (slice_index_or segments run d) (end_at segments run to)
HasRun-at [] run to d inside = absurd (omega arith)
HasRun-at (segment ∷ later) zero to d inside = record { before = []; later = later; stands = refl; ends = refl }
HasRun-at (segment ∷ later) (suc run) to d inside =
    let behind = HasRun-at later run to d (omega arith) in
    record {
      before = segment ∷ behind.before;
      later = behind.later;
      stands = ap (λ (l : List Segment). segment ∷ l) behind.stands;
      ends = behind.ends;
    }

-- the first x of the run at this place
pub first_x_at : (xs : List ℕ) (segments : List Segment) (run : ℕ) (d : Segment) → run < length segments →
    slice_index (first_xs xs segments) run ≡ slice_index xs (slice_index_or segments run d).start
first_x_at xs segments run d inside =
    get_or-map (λ (segment : Segment). slice_index xs segment.start) segments run d 0 inside

-- the predecessor stands in the run whose first x is the last one at or before the question
pub predecessor_in_run :
    (R : Segment → ℕ → Type 0) (xs : List ℕ) (segments : List Segment) (run : ℕ) (d segment : Segment) (e q place : ℕ) →
    IsStrictlyIncreasing xs → segment ≡ slice_index_or segments run d → IsRun R 0 (length xs) segments run segment e →
    IsPredecessor (first_xs xs segments) q run → IsPredecessor xs q place → (segment.start ≤ place) × (place < e)
predecessor_in_run R xs segments run d segment e q place rises is at found predecessor = (from, to)
  where
    count : length (first_xs xs segments) ≡ length segments
    count = first_xs-count xs segments

    inside : run < length segments
    inside = omega (arith, count, found.inside)

    from : segment.start ≤ place
    from = elim (cases_lt place segment.start) [
      | inl below ↦ absurd (omega (
        arith,
        predecessor.last segment.start below (omega (arith, at.some, at.within)),
        first_x_at xs segments run d inside,
        ap (λ (s : Segment). slice_index xs s.start) is,
        found.at_most,
      ))
      | inr here ↦ here
    ]

    to : place < e
    to = elim (cases_lt place e) [
      | inl here ↦ here
      | inr past ↦ elim (cases_lt (run + 1) (length segments)) [
        | inl more ↦
            let next = at.next d more in
            let above = found.last (run + 1) (omega arith) (omega (arith, count)) in
            let first = first_x_at xs segments (run + 1) d more in
            elim (cases_lt e place) [
              | inl beyond ↦ absurd
                  (omega (
                    arith,
                    slice_index-rises xs e place rises beyond predecessor.inside,
                    predecessor.at_most,
                    ap (slice_index xs) next,
                  ))
              | inr same ↦ let here : e ≡ place = omega arith in
                  absurd (omega (arith, ap (slice_index xs) here, predecessor.at_most, ap (slice_index xs) next))
            ]
        | inr last ↦
            let here : length segments ≡ run + 1 = omega (arith, inside) in
            absurd (omega (arith, at.last here, predecessor.inside))
      ]
    ]
