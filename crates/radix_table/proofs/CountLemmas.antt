-- How many numbers stand in lower steps, for any steps in which greater numbers are in no lower one.
use Rattle.std.proofs.Common.{◌≡◌, ℕ, ◌+◌, ◌-◌, ◌*◌, ◌<◌, ◌≤◌, List, [], ◌∷◌, ◌++◌, map, length}
use Rattle.std.proofs.Common.{slice_index, slice_index_or, sym, ap, ◌∙◌, inl, inr, arith}
use Rattle.std.specs.Prelude.{min}
use Rattle.std.proofs.lemmas.Bool.{cases_lt}
use Rattle.std.proofs.lemmas.List.{get_or-map, length-map, length-append, get_or_append_left}
use Rattle.std.proofs.Math.Seq.{get_or-append_seam}
use Rattle.std.specs.List.Sorted.{IsNonDecreasing}
use Rattle.window_search.specs.Searches.{lb}
use Rattle.window_search.proofs.CallerLemmas.{lb-is, IsLowerBound-lb}
use Rattle.radix_table.specs.declared.scale.Scale.{Scale}
use Rattle.radix_table.specs.Tables.{step_of, IsScale, AreCounts, IsBetween, IsFilledTo, IsLedTo}
use Rattle.radix_table.proofs.ScaleLemmas.{distance_rises}

-- a greater number stands in no lower step
pub record Rises (step : ℕ → ℕ) : Type 0 where
  pub rises : (x y : ℕ) → x ≤ y → step x ≤ step y

-- so do the steps of a scale
pub Rises-scale : (scale : Scale) → IsScale scale → Rises (step_of scale)
Rises-scale scale is =
    record {
      rises =
          λ x y less. distance_rises scale.shift scale.kept (x - scale.first) (y - scale.first) is.some (omega arith);
    }

-- a number in a lower step is less
pub step-below : (step : ℕ → ℕ) (x y : ℕ) → Rises step → step x < step y → x < y
step-below step x y up less = elim (cases_lt x y) [
  | inl below ↦ below
  | inr above ↦ absurd (omega (arith, less, up.rises y x above))
]

step-at : (step : ℕ → ℕ) (xs : List ℕ) (k d : ℕ) →
    k < length xs → slice_index_or (map step xs) k d ≡ step (slice_index xs k)
step-at step xs k d inside = get_or-map step xs k 0 d inside

-- the steps of numbers that never fall never fall
pub steps-order : (step : ℕ → ℕ) (xs : List ℕ) → Rises step → IsNonDecreasing xs → IsNonDecreasing (map step xs)
steps-order step xs up order = λ i j d less inside.
    let within : j < length xs = omega (arith, length-map xs step, inside) in
    omega (
      arith,
      step-at step xs i d (omega arith),
      step-at step xs j d within,
      up.rises (slice_index xs i) (slice_index xs j) (order i j 0 less within),
    )

-- an entry: so many numbers stand in front that are in lower steps
pub entry-is : (step : ℕ → ℕ) (xs : List ℕ) (h r : ℕ) →
    r ≤ length xs → ((k : ℕ) → k < r → step (slice_index xs k) < h) →
    ((k : ℕ) → r ≤ k → k < length xs → h ≤ step (slice_index xs k)) → lb (map step xs) h ≡ r
entry-is step xs h r within before from =
    let count = length-map xs step in
    lb-is (map step xs) h r
    (omega (arith, count)) (λ k less. omega (arith, step-at step xs k 0 (omega arith), before k less))
    (λ k high inside. omega (arith, step-at step xs k 0 (omega (arith, count)), from k high (omega (arith, count))))

pub record IsEntry (step : ℕ → ℕ) (xs : List ℕ) (h r : ℕ) : Type 0 where
  pub within : r ≤ length xs
  pub before : (k : ℕ) → k < r → step (slice_index xs k) < h
  pub from : (k : ℕ) → r ≤ k → k < length xs → h ≤ step (slice_index xs k)

pub IsEntry-at : (step : ℕ → ℕ) (xs : List ℕ) (h r : ℕ) →
    Rises step → IsNonDecreasing xs → r ≡ lb (map step xs) h → IsEntry step xs h r
IsEntry-at step xs h r up order is =
    let count = length-map xs step in
    let bound = IsLowerBound-lb (map step xs) h (steps-order step xs up order) in
    record {
      within = omega (arith, is, count, bound.within);
      before = λ k less. omega
          (arith, step-at step xs k 0 (omega (arith, is, count, bound.within)), bound.before k (omega (arith, is)));
      from = λ k high inside.
          omega (arith, step-at step xs k 0 inside, bound.from k (omega (arith, is)) (omega (arith, count)));
    }

-- ---- the entries, number by number

-- the entries so far, where the steps of the first `done` numbers have theirs
pub record IsFilled (step : ℕ → ℕ) (xs : List ℕ) (done : ℕ) (entries : List ℕ) : Type 0 where
  pub passed : (k : ℕ) → k < done → step (slice_index xs k) < length entries
  pub each : (h : ℕ) → h < length entries → slice_index entries h ≡ lb (map step xs) h

-- entries added up to that of the next number's step, or up to the end
pub filled_more : (step : ℕ → ℕ) (xs : List ℕ) (done to : ℕ) (entries more : List ℕ) →
    done ≤ length xs → IsFilled step xs done entries →
    ((k : ℕ) → done ≤ k → k < length xs → to ≤ step (slice_index xs k) + 1) → IsFilledTo to done entries more →
    (h : ℕ) → h < length more → slice_index more h ≡ lb (map step xs) h
filled_more step xs done to entries more fits filled later longer h inside = elim (cases_lt h (length entries)) [
  | inl old ↦ longer.before h old ∙ filled.each h old
  | inr new ↦ elim (cases_lt h to) [
    | inl here ↦ longer.added h new here
        ∙ sym (entry-is step xs h done fits
        (λ k less. omega (arith, filled.passed k less)) (λ k high within. omega (arith, later k high within)))
    | inr past ↦ elim (cases_lt (length entries) to) [
      | inl more_of ↦ absurd (omega (arith, longer.grown (omega arith)))
      | inr none ↦ absurd (omega (arith, longer.full none))
    ]
  ]
]

-- the next number's step and those before it are filled
pub IsFilled-more : (step : ℕ → ℕ) (xs : List ℕ) (done at : ℕ) (entries more : List ℕ) →
    Rises step → IsNonDecreasing xs → done < length xs → at ≡ step (slice_index xs done) →
    IsFilled step xs done entries → IsFilledTo (at + 1) done entries more → IsFilled step xs (done + 1) more
IsFilled-more step xs done at entries more up order inside is filled longer = record {
  passed = λ k less. elim (cases_lt k done) [
    | inl before ↦ elim (cases_lt (length entries) (at + 1)) [
      | inl grows ↦ omega (arith, longer.grown (omega arith), filled.passed k before)
      | inr old ↦ omega (arith, longer.full old, filled.passed k before)
    ]
    | inr here ↦
        let last : k ≡ done = omega arith in
        let same = ap (λ (j : ℕ). step (slice_index xs j)) last in
        elim (cases_lt (length entries) (at + 1)) [
          | inl grows ↦ omega (arith, longer.grown (omega arith), is, same)
          | inr old ↦ omega (arith, longer.full old, is, same)
        ]
  ];
  each = filled_more step xs done (at + 1) entries more (omega arith) filled
      (λ k high within.
      omega (arith, is, up.rises (slice_index xs done) (slice_index xs k) (order done k 0 high within))) longer;
}

-- and with one entry more, which is the number of all, they are the counts
pub AreCounts-last : (step : ℕ → ℕ) (xs entries more : List ℕ) (n : ℕ) →
    n ≡ length xs → more ≡ entries ++ n ∷ [] → IsFilled step xs (length xs) entries → AreCounts step xs more
AreCounts-last step xs entries more n all is filled =
    let count : length more ≡ length entries + 1 = ap length is ∙ omega (arith, length-append entries (n ∷ [])) in
    let last : slice_index more (length entries) ≡ length xs = ap (λ (l : List ℕ). slice_index l (length entries)) is
    ∙ get_or-append_seam entries n [] 0 ∙ all in
    record {
      each = λ h inside. elim (cases_lt h (length entries)) [
        | inl old ↦ ap (λ (l : List ℕ). slice_index l h) is
            ∙ get_or_append_left entries (n ∷ []) 0 h old ∙ filled.each h old
        | inr new ↦
            let here : h ≡ length entries = omega (arith, count) in
            ap (slice_index more) here ∙ last
            ∙ sym (ap (lb (map step xs)) here ∙ entry-is step xs (length entries)
            (length xs) (omega arith) (λ k less. filled.passed k less) (λ k high within. absurd (omega arith)))
      ];
      all = λ h end. let here : h ≡ length entries = omega (arith, count) in ap (slice_index more) here ∙ last;
    }

-- ---- a look at the table

-- what two neighbouring entries say
pub IsBetween-at : (step : ℕ → ℕ) (xs entries : List ℕ) (q at low high : ℕ) →
    Rises step → IsNonDecreasing xs → AreCounts step xs entries → 2 ≤ length entries →
    at ≡ min (step q) (length entries - 2) →
    low ≡ slice_index entries at → high ≡ slice_index entries (at + 1) → IsBetween xs q low high
IsBetween-at step xs entries q at low high up order counts some is left right =
    let inside : at + 1 < length entries = omega (arith, is) in
    let lower = IsEntry-at step xs at low up order (left ∙ counts.each at (omega arith)) in
    let upper = IsEntry-at step xs (at + 1) high up order (right ∙ counts.each (at + 1) inside) in
    record {
      begins = lower.within;
      within = upper.within;
      before =
          λ k less. omega (arith, step-below step (slice_index xs k) q up (omega (arith, is, lower.before k less)));
      from = λ k past within. elim (cases_lt (step q) (length entries - 1)) [
        | inl under ↦ step-below step q (slice_index xs k) up (omega (arith, is, upper.from k past within))
        | inr over ↦ absurd (omega (arith, right, counts.all (at + 1) (omega (arith, is)), past, within))
      ];
    }

-- the places of a predecessor, where so many numbers are at most q
pub IsLedTo-between : (xs : List ℕ) (q most low high : ℕ) →
    IsBetween xs q low high → 2 * (high - low + 1) ≤ most → IsLedTo xs q most (low - 1) (high - 1)
IsLedTo-between xs q most low high between narrow = record {
  within = λ some. omega (arith, between.within);
  holds = λ place here. (
    elim (cases_lt place (low - 1)) [
      | inl before ↦ absurd
          (omega (
            arith,
            between.before (low - 1) (omega arith),
            here.last (low - 1) before (omega (arith, between.begins)),
          ))
      | inr from ↦ from
    ],
    elim (cases_lt place high) [
      | inl before ↦ omega arith
      | inr past ↦ absurd (omega (arith, between.from place past here.inside, here.at_most))
    ],
  );
  narrow = omega (arith, narrow);
}
