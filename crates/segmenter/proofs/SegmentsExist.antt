-- Each range of points has a segmentation: from each place there
-- is a longest run, and the segments of these follow one another.
--
-- Main results: `run_from`: a run that some line fits goes on to a longest one, with its steep pair and its cut;
-- `IsSegmentation-some`. A run of two places or more has a steep
-- and a flat pair, and the place after it lies over the one, or
-- under the other, or some line fits it too. A line always fits one place, and two.
use Rattle.std.proofs.Common.{◌≡◌, ◌⊎◌, ℕ, zero, suc, ◌+◌, ◌-◌, ◌<◌, ◌≤◌, List, []}
use Rattle.std.proofs.Common.{◌∷◌, Option, None, Some, inl, inr, refl, subst, arith}
use Rattle.std.proofs.lemmas.Bool.{cases_lt}
use Rattle.exact_cross.specs.declared.segment.Side.TheVariants.{Over, Under}
use Rattle.exact_cross.specs.declared.segment.Witness.{Witness}
use Rattle.exact_cross.specs.declared.segment.Segment.{Segment}
use Rattle.exact_cross.specs.Points.{Points, IsAscending}
use Rattle.exact_cross.specs.Slopes.{steep_slope, flat_slope}
use Rattle.exact_cross.specs.Lines.{SomeLineFits}
use Rattle.exact_cross.specs.Covers.{run_end, IsLongest}
use Rattle.exact_cross.specs.Steep.{IsSteepOf, line_of_pair}
use Rattle.exact_cross.specs.Segments.{starts_of, IsSteepSegment}
use Rattle.exact_cross.specs.Cuts.{IsCutOf, HasItsCut}
use Rattle.exact_cross.proofs.CallerLemmas.{IsAtMost-decided, IsSteepPair-some, IsFlatPair-some, IsFollowed}
use Rattle.exact_cross.proofs.CallerLemmas.{IsOver-in, IsUnder-in, IsOver-no_line, IsUnder-no_line, sides_exclude}
use Rattle.exact_cross.proofs.CallerLemmas.{some_line-one_place, some_line-two_places, some_line-longer, run_end-first}
use Rattle.exact_cross.specs.Segmentation.{IsSegmentation}

-- the run s..e ends: its cut, and no line fits it with the place e
record Ends (p : Points) (eps s e : ℕ) : Type 0 where
  witness : Witness
  cut : IsCutOf p eps s e witness
  no_line : SomeLineFits p eps s (e + 1) → ⊥

-- the place after a run goes on with it, or ends it
goes_on_or_ends : (p : Points) (eps s e a b c d : ℕ) →
    IsFollowed p eps s e a b c d → SomeLineFits p eps s (e + 1) ⊎ Ends p eps s e
goes_on_or_ends p eps s e a b c d run =
    let ascends = run.ascends in
    let steep = run.steep.pair in
    let flat = run.flat.pair in
    elim (IsAtMost-decided (flat_slope p eps b e) (steep_slope p eps a b)) [
      | inr above ↦
          let over = IsOver-in p eps a b e ascends steep.rises steep.to_end run.inside above in
          inr (record {
            witness = record { p = a; q = b; r = e; side = Over };
            cut = record {
              place = refl;
              side = (
                run.steep,
                over,
                λ i j other under. sides_exclude p eps s e a b i j
                    (record
                    { ascends = ascends; inside = run.inside; fits = run.fits; steep = run.steep; flat = other })
                    over under,
              );
            };
            no_line = IsOver-no_line p eps s e a b ascends run.inside steep over;
          })
      | inl not_over ↦ elim (IsAtMost-decided (flat_slope p eps c d) (steep_slope p eps d e)) [
        | inl not_under ↦ inl (some_line-longer p eps s e a b c d run not_over not_under)
        | inr below ↦
            let under = IsUnder-in p eps c d e ascends flat.rises flat.to_end run.inside below in
            inr (record {
              witness = record { p = c; q = d; r = e; side = Under };
              cut = record {
                place = refl;
                side = (
                  run.flat,
                  under,
                  λ i j other over. sides_exclude p eps s e i j c d
                      (record
                      { ascends = ascends; inside = run.inside; fits = run.fits; steep = other; flat = run.flat })
                      over under,
                );
              };
              no_line = IsUnder-no_line p eps s e c d ascends run.inside flat under;
            })
      ]
    ]

-- a longest run from s, with its segment
record HasLongestRun (p : Points) (eps to s : ℕ) : Type 0 where
  segment : Segment
  e : ℕ
  starts : segment.start ≡ s
  some : s < e
  within : e ≤ to
  longest : IsLongest p eps to s e
  steep : IsSteepSegment p eps segment e
  cut : HasItsCut p eps to segment e

IsSteepOf-some : (p : Points) (eps s e : ℕ) →
    IsAscending p → s < e → e ≤ p.count → (a : ℕ) × (b : ℕ) × IsSteepOf p eps s e a b
IsSteepOf-some p eps s e ascends some inside = elim (cases_lt (s + 1) e) [
  | inl more ↦ let steep = IsSteepPair-some p eps s e ascends more inside in
      (steep.0, steep.1, record { alone = λ one. absurd (omega arith); steep = λ more. steep.2 })
  | inr one ↦ (s, s, record { alone = λ one. (refl, refl); steep = λ more. absurd (omega arith) })
]

longest_run : (p : Points) (eps to s e : ℕ) (cut : Option Witness) →
    IsAscending p → to ≤ p.count → s < e → e ≤ to → IsLongest p eps to s e →
    (e ≡ to → cut ≡ None) → (e < to → (w : Witness) × (cut ≡ Some w) × IsCutOf p eps s e w) → HasLongestRun p eps to s
longest_run p eps to s e cut ascends inside some within longest last other =
    let steep = IsSteepOf-some p eps s e ascends some (omega arith) in
    record {
      segment = record { start = s; a = steep.0; b = steep.1; line = line_of_pair p eps steep.0 steep.1; cut = cut };
      e = e;
      starts = refl;
      some = some;
      within = within;
      longest = longest;
      steep = record { pair = steep.2; line = refl };
      cut = record { last = last; other = other };
    }

run_from : (p : Points) (eps to s : ℕ) → IsAscending p →
    to ≤ p.count → (gap e : ℕ) → e + gap ≡ to → s < e → SomeLineFits p eps s e → HasLongestRun p eps to s
run_from p eps to s ascends inside zero e here some fits =
    longest_run p eps to s e None ascends inside some (omega arith)
    (record { fits = fits; no_longer = λ more. absurd (omega arith) }) (λ last. refl) (λ more. absurd (omega arith))
run_from p eps to s ascends inside (suc gap) e here some fits =
    let go_on = λ (longer : SomeLineFits p eps s (e + 1)).
    run_from p eps to s ascends inside gap (e + 1) (omega arith) (omega arith) longer in
    elim (cases_lt (s + 1) e) [
      | inr one ↦
          let two : s + 2 ≡ e + 1 = omega arith in
          go_on (subst (λ (n : ℕ). SomeLineFits p eps s n) two (some_line-two_places p eps s ascends (omega arith)))
      | inl more ↦
          let steep = IsSteepPair-some p eps s e ascends more (omega arith) in
          let flat = IsFlatPair-some p eps s e ascends more (omega arith) in
          let run : IsFollowed p eps s e steep.0 steep.1 flat.0 flat.1 =
          record { ascends = ascends; inside = omega arith; fits = fits; steep = steep.2; flat = flat.2 } in
          elim (goes_on_or_ends p eps s e steep.0 steep.1 flat.0 flat.1 run) [
            | inl longer ↦ go_on longer
            | inr ends ↦ longest_run p eps to s e (Some ends.witness) ascends inside some (omega arith)
                (record { fits = fits; no_longer = λ more. ends.no_line })
                (λ last. absurd (omega arith)) (λ more. (ends.witness, refl, ends.cut))
          ]
    ]

-- no place, no segment
IsSegmentation-nothing : (p : Points) (eps from to : ℕ) → from ≡ to → IsSegmentation p eps from to []
IsSegmentation-nothing p eps from to none = record { greedy = none; steep = tt; cuts = tt }

-- a longest run before the segments of the places behind it
IsSegmentation-front : (p : Points) (eps from to : ℕ) (run : HasLongestRun p eps to from) (later : List Segment) →
    IsSegmentation p eps run.e to later →
    IsSegmentation p eps from to (run.segment ∷ later)
IsSegmentation-front p eps from to run later behind =
    let ends : run_end (starts_of later) to
    ≡ run.e = run_end-first (IsLongest p eps to) (starts_of later) run.e to behind.greedy in
    record {
      greedy = rw ends (run.starts, run.some, run.longest, behind.greedy);
      steep = rw ends (run.steep, behind.steep);
      cuts = rw ends (run.cut, behind.cuts);
    }

segments_from : (p : Points) (eps to : ℕ) → IsAscending p → to ≤ p.count →
    (gap from : ℕ) → from ≤ to → to ≤ from + gap → (segments : List Segment) × IsSegmentation p eps from to segments
segments_from p eps to ascends inside zero from within near = ([], IsSegmentation-nothing p eps from to (omega arith))
segments_from p eps to ascends inside (suc gap) from within near = elim (cases_lt from to) [
  | inr none ↦ ([], IsSegmentation-nothing p eps from to (omega arith))
  | inl some ↦
      let run = run_from p eps to from ascends inside
      (to - (from + 1)) (from + 1) (omega arith) (omega arith) (some_line-one_place p eps from) in
      let later = segments_from p eps to ascends inside gap run.e run.within (omega (arith, run.some)) in
      (run.segment ∷ later.0, IsSegmentation-front p eps from to run later.0 later.1)
]

pub IsSegmentation-some : (p : Points) (eps from to : ℕ) →
    IsAscending p → from ≤ to → to ≤ p.count → (segments : List Segment) × IsSegmentation p eps from to segments
IsSegmentation-some p eps from to ascends within inside =
    segments_from p eps to ascends inside to from within (omega arith)
