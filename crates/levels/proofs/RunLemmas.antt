-- The runs of level 0, and the first x of each.
use Rattle.std.proofs.Common.{◌≡◌, ℕ, ◌+◌, ◌-◌, ◌<◌, ◌≤◌, List, [], ◌∷◌}
use Rattle.std.proofs.Common.{length, slice_index, sym, subst, inl, inr, arith}
use Rattle.std.specs.Prelude.{max, min}
use Rattle.std.proofs.lemmas.Bool.{cases_lt}
use Rattle.std.specs.List.Sorted.{IsNonDecreasing, IsStrictlyIncreasing}
use Rattle.exact_cross.specs.declared.segment.Segment.{Segment}
use Rattle.exact_cross.specs.IndexLevels.{level_at}
use Rattle.levels.specs.Indexes.{xs_at, IsLaidIndex}
use Rattle.window_search.specs.Searches.{lb, IsPredecessor}
use Rattle.window_search.proofs.CallerLemmas.{lb-is}
use Rattle.radix_table.specs.Tables.{IsBetween}
use Rattle.key_search.specs.Interleaved.{AreAmong}
use Rattle.levels.specs.Interleaved.{AreRuns}
use Rattle.levels.proofs.LevelLemmas.{xs_at-length, some_at}
use Rattle.levels.proofs.LookupLemmas.{no_segment, ascends, first_at, IsNonDecreasing-from_rising}

-- where level 0 has a run, there is a level
some_level : (levels : List (List Segment)) (k : ℕ) → k < length (level_at levels 0) → 0 < length levels
some_level [] k less = absurd (omega arith)
some_level (level ∷ later) k less = omega arith

pub runs-are : (keys : List ℕ) (levels : List (List Segment)) →
    length (xs_at keys levels 1) ≡ length (level_at levels 0)
runs-are keys levels = xs_at-length keys levels 0

pub level_of-run : (keys : List ℕ) (levels : List (List Segment)) (run : ℕ) →
    run < length (xs_at keys levels 1) → (0 < length levels) × (run < length (level_at levels 0))
level_of-run keys levels run less =
    let inside : run < length (level_at levels 0) = omega (arith, runs-are keys levels) in
    (some_level levels run inside, inside)

-- no level, no run
pub no_runs : (keys : List ℕ) (levels : List (List Segment)) → length levels ≡ 0 → 0 ≡ length (xs_at keys levels 1)
no_runs keys levels none = elim (cases_lt 0 (length (xs_at keys levels 1))) [
  | inl some ↦ absurd (omega (arith, (level_of-run keys levels 0 some).0))
  | inr empty ↦ omega arith
]

-- the first x of the runs never fall
pub first_x-order : (keys : List ℕ) (eps eps_rec : ℕ) (levels : List (List Segment)) →
    IsNonDecreasing keys → IsLaidIndex keys eps eps_rec levels → IsNonDecreasing (xs_at keys levels 1)
first_x-order keys eps eps_rec levels order index = elim (cases_lt 0 (length levels)) [
  | inl some ↦ IsNonDecreasing-from_rising
      (xs_at keys levels 1) (ascends keys eps eps_rec levels order index 1 (omega arith)).rises
  | inr none ↦ λ i j d less inside. absurd (omega (arith, no_runs keys levels (omega arith)))
]

-- where there is a key, the first run begins at the first one
pub first_run : (keys : List ℕ) (eps eps_rec : ℕ) (levels : List (List Segment)) →
    IsNonDecreasing keys → IsLaidIndex keys eps eps_rec levels → 0 < length keys →
    (0 < length (xs_at keys levels 1)) × (slice_index (xs_at keys levels 1) 0 ≡ slice_index keys 0)
first_run keys eps eps_rec levels order index some =
    let level = index.some some in (
      some_at keys eps eps_rec levels order some 1 (λ k less. index.each k (omega arith)),
      first_at keys eps eps_rec levels order index some no_segment 1 (omega arith),
    )

-- where all runs begin behind a question, no key is below it
pub lb-before_runs : (keys : List ℕ) (eps eps_rec : ℕ) (levels : List (List Segment)) (q : ℕ) →
    IsNonDecreasing keys → IsLaidIndex keys eps eps_rec levels →
    ((k : ℕ) → k < length (xs_at keys levels 1) → q < slice_index (xs_at keys levels 1) k) → 0 ≡ lb keys q
lb-before_runs keys eps eps_rec levels q order index behind =
    sym (lb-is keys q 0 (omega arith)
    (λ k less. absurd (omega arith)) (λ k low inside. omega (arith, first (omega arith), order 0 k 0 low inside)))
  where
    first : 0 < length keys → q ≤ slice_index keys 0
    first some = let run = first_run keys eps eps_rec levels order index some in omega (arith, run.1, behind 0 run.0)

-- ---- how many runs begin at or before a question

-- what two tables say, together
pub narrowed : (xs : List ℕ) (q low high from to first last : ℕ) → IsBetween xs q low high →
    IsBetween xs q from to → first ≡ max low from → last ≡ min high to → IsBetween xs q first last
narrowed xs q low high from to first last one two lower upper = grind arith

-- the run of a question that is raised to the first x is among those
-- from the last one that surely begins up to the last one that may
pub raised_run : (xs : List ℕ) (q asked low high count place : ℕ) → IsStrictlyIncreasing xs → IsBetween xs q low high →
    asked ≡ max q (slice_index xs 0) → 1 ≤ count → high - (low - 1) ≤ count → IsPredecessor xs asked place →
    (low - 1 ≤ place) × (place < low - 1 + count)
raised_run xs q asked low high count place rises between is some wide found =
    let order = IsNonDecreasing-from_rising xs rises in
    grind (
      arith,
      rises 0,
      order 1 place 0,
      between.before 0,
      found.last (place + 1),
      between.before (place + 1),
      between.from place,
    )

-- the predecessors that are the only place left
pub AreRuns-from : (list qs bases : List ℕ) → AreAmong list qs bases 1 →
    ((k : ℕ) → k < 16 → (place : ℕ) × IsPredecessor list (slice_index qs k) place) → AreRuns list qs bases
AreRuns-from list qs bases among there = record { lanes = among.lanes; each = each }
  where
    each : (k : ℕ) → k < 16 → IsPredecessor list (slice_index qs k) (slice_index bases k)
    each k inside =
        let found = there k inside in
        let place : ℕ = found.0 in
        let held = (among.each k inside).found place found.1 in
        let same : place ≡ slice_index bases k = omega (arith, held.0, held.1) in
        subst (IsPredecessor list (slice_index qs k)) same found.1
