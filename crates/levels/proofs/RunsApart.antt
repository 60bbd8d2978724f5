-- The runs of a level lie side by side, so one place has one run.
use Rattle.std.proofs.Common.{◌≡◌, ◌⊎◌, inl, inr, ℕ, ◌<◌, ◌≤◌, List, [], ◌∷◌, ◌++◌, sym, ap, ◌∙◌, arith}
use Rattle.exact_cross.specs.declared.segment.Segment.{Segment}
use Rattle.exact_cross.specs.Covers.{run_end, CutsInto}
use Rattle.exact_cross.specs.Segments.{starts_of, EachRun}
use Rattle.exact_cross.proofs.CallerLemmas.{CutsInto-rises}
use Rattle.levels.specs.Lookups.{HasRun}

HasRun-none : (to : ℕ) (segment : Segment) (e : ℕ) → HasRun [] to segment e → ⊥
HasRun-none to segment e run = none run.before run.stands
  where
    none : (before : List Segment) → [] ≡ before ++ segment ∷ run.later → ⊥
    none [] is = cc
    none (x ∷ before) is = cc

-- a run is the first one or one of the later ones
HasRun-cases : (first : Segment) (rest : List Segment) (to : ℕ) (segment : Segment) (e : ℕ) →
    HasRun (first ∷ rest) to segment e →
    ((segment ≡ first) × (e ≡ run_end (starts_of rest) to)) ⊎ HasRun rest to segment e
HasRun-cases first rest to segment e run = cases run.before run.stands
  where
    cases : (before : List Segment) → first ∷ rest ≡ before ++ segment ∷ run.later →
        ((segment ≡ first) × (e ≡ run_end (starts_of rest) to)) ⊎ HasRun rest to segment e
    cases [] is =
        let same : run.later ≡ rest = cc in
        let here : segment ≡ first = cc in
        inl (here, run.ends ∙ ap (λ (later : List Segment). run_end (starts_of later) to) same)
    cases (x ∷ before) is = let rest_is : rest ≡ before ++ segment ∷ run.later = cc in
        inr (record { before = before; later = run.later; stands = rest_is; ends = run.ends })

pub HasRun-each : (R : Segment → ℕ → Type 0) (segments : List Segment) (to : ℕ) (segment : Segment) (e : ℕ) →
    EachRun R to segments → HasRun segments to segment e → R segment e
HasRun-each R [] to segment e runs run = absurd (HasRun-none to segment e run)
HasRun-each R (first ∷ rest) to segment e runs run = elim (HasRun-cases first rest to segment e run) [
  | inl here ↦ rw (here.0, here.1) runs.0
  | inr later ↦ HasRun-each R rest to segment e runs.1 later
]

-- a run lies between the ends of all
pub HasRun-within : (C : ℕ → ℕ → Type 0) (segments : List Segment) (from to : ℕ) (segment : Segment) (e : ℕ) →
    CutsInto C from to (starts_of segments) → HasRun segments to segment e →
    (from ≤ segment.start) × (e ≤ to)
HasRun-within C [] from to segment e cuts run = absurd (HasRun-none to segment e run)
HasRun-within C (first ∷ rest) from to segment e cuts run = elim (HasRun-cases first rest to segment e run) [
  | inl here ↦ (
    omega (arith, cuts.0, ap (λ (s : Segment). s.start) here.0),
    omega (arith, here.1, CutsInto-rises C (starts_of rest) (run_end (starts_of rest) to) to cuts.3),
  )
  | inr later ↦ let behind = HasRun-within C rest (run_end (starts_of rest) to) to segment e cuts.3 later in
      (omega (arith, behind.0, cuts.1), behind.1)
]

pub HasRun-unique : (C : ℕ → ℕ → Type 0) (segments : List Segment)
    (from to place : ℕ) (segment other : Segment) (e f : ℕ) → CutsInto C from to (starts_of segments) →
    HasRun segments to segment e → segment.start ≤ place →
    place < e → HasRun segments to other f → other.start ≤ place → place < f → (segment ≡ other) × (e ≡ f)
HasRun-unique C [] from to place segment other e f cuts run from_start to_end run' from_start' to_end' =
    absurd (HasRun-none to segment e run)
HasRun-unique C (first ∷ rest) from to place segment other e f cuts run from_start to_end run' from_start' to_end' =
    elim (HasRun-cases first rest to segment e run) [
      | inl here ↦ elim (HasRun-cases first rest to other f run') [
        | inl there ↦ (here.0 ∙ sym there.0, here.1 ∙ sym there.1)
        | inr later ↦
            absurd
            (omega (arith, here.1, (HasRun-within C rest (run_end (starts_of rest) to) to other f cuts.3 later).0))
      ]
      | inr later ↦ elim (HasRun-cases first rest to other f run') [
        | inl there ↦ absurd
            (omega (arith, there.1, (HasRun-within C rest (run_end (starts_of rest) to) to segment e cuts.3 later).0))
        | inr behind ↦ HasRun-unique C rest (run_end (starts_of rest) to)
            to place segment other e f cuts.3 later from_start to_end behind from_start' to_end'
      ]
    ]
