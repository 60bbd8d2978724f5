-- The lines of a cover tell nearly the place.
use Rattle.std.proofs.Common.{◌≡◌, ◌⊎◌, inl, inr, ℕ, zero, suc, ◌+◌, ◌-◌, ◌*◌, ◌/◌, ◌%◌, ◌^◌}
use Rattle.std.proofs.Common.{◌<◌, ◌≤◌, List, length, slice_index, sym, ap, ◌∙◌, subst, arith}
use Rattle.std.specs.Prelude.{min}
use Rattle.std.proofs.lemmas.Bool.{cases_lt}
use Rattle.std.proofs.Math.Nat.{mul-le-mul_right}
use Rattle.std.proofs.Math.Pow.{shr_mono}
use Rattle.exact_cross.specs.Points.{Points, IsAscending}
use Rattle.window_search.specs.Brackets.{IsBracket}
use Rattle.hints.specs.Told.{first_xs, first_height, height_at, IsToldBy}
use Rattle.hints.specs.Made.{AreLinesOf}
use Rattle.hints.proofs.LineLemmas.{length-first_xs, first_xs-at}

-- heights of a line never fall
height_rises : (lines : List ℕ) (line a b : ℕ) → a ≤ b → height_at lines line a ≤ height_at lines line b
height_rises lines line a b less =
    let more : a - slice_index lines (3 * line) ≤ b - slice_index lines (3 * line) = omega arith in
    let scaled = mul-le-mul_right (slice_index lines (3 * line + 1)) more in
    omega (arith, shr_mono (slice_index lines (3 * line + 2) % 128) scaled)

-- at its first x, and before it, a line is as high as it says
height-first : (lines : List ℕ) (line q : ℕ) →
    q ≤ slice_index lines (3 * line) → height_at lines line q ≡ first_height lines line
height-first lines line q before =
    let none : q - slice_index lines (3 * line) ≡ 0 = omega arith in
    let climb : (q - slice_index lines (3 * line)) * slice_index lines (3 * line + 1)
    ≡ 0 = ap (λ (n : ℕ). n * slice_index lines (3 * line + 1)) none ∙ omega arith in
    let shifted : (q - slice_index lines (3 * line)) * slice_index lines
    (3 * line + 1) / 2 ^ (slice_index lines (3 * line + 2) % 128) ≡ 0 =
    ap (λ (n : ℕ). n / 2 ^ (slice_index lines (3 * line + 2) % 128)) climb
    ∙ none_of (2 ^ (slice_index lines (3 * line + 2) % 128)) in
    omega (arith, shifted)
  where
    none_of : (d : ℕ) → 0 / d ≡ 0
    none_of d = grind arith

module _ (p : Points) (eps n : ℕ) (start : ℕ → ℕ)
    (count : ℕ) (lines : List ℕ) (ascends : IsAscending p) (are : AreLinesOf p eps start count lines) where
  many : length lines / 3 ≡ count
  many = omega (arith, are.holds.long)

  -- a later run begins no sooner
  starts_rise : (line more : ℕ) → line + more ≤ count → start line ≤ start (line + more)
  starts_rise line zero within = omega (arith, ap start (plus_zero line))
    where
      plus_zero : (a : ℕ) → a + 0 ≡ a
      plus_zero a = omega arith
  starts_rise line (suc more) within =
      let step : line + suc more ≡ line + more + 1 = omega arith in
      omega (arith, starts_rise line more (omega arith), are.rise (line + more) (omega arith), ap start step)

  -- each run lies within the points
  run_within : (line : ℕ) → line < count → start (line + 1) ≤ p.count
  run_within line inside =
      let whole : line + 1 + (count - (line + 1)) ≡ count = omega arith in
      omega (arith, starts_rise (line + 1) (count - (line + 1)) (omega arith), ap start whole, are.ends)

  x_at_most : (i j : ℕ) → i ≤ j → j < p.count → p.x i ≤ p.x j
  x_at_most i j low inside = elim (cases_lt i j) [
    | inl less ↦ omega (arith, ascends.x_rises i j less inside)
    | inr same ↦ let here : i ≡ j = omega arith in omega (arith, ap p.x here)
  ]

  -- the height at which a line begins is that of its first point, nearly
  record BeginsNear (line : ℕ) : Type 0 where
    pub from : p.y (start line) ≤ first_height lines line + 1
    pub to : first_height lines line ≤ p.y (start line) + 2 * eps + 1

  begins_near : (line : ℕ) → line < count → BeginsNear line
  begins_near line inside =
      let tells = are.holds.each line inside in
      let rises = are.rise line inside in
      let first = height-first lines line (p.x (start line)) (omega (arith, tells.begins)) in
      record {
        from = omega (arith, first, tells.not_below (start line) (omega arith) rises);
        to = omega (arith, first, tells.not_above (start line) (omega arith) rises);
      }

  -- the line is the last one that begins at or before the question
  record IsLineFor (q line : ℕ) : Type 0 where
    pub inside : line < count
    pub begins : slice_index lines (3 * line) ≤ q
    pub behind : line + 1 < count → q < slice_index lines (3 * (line + 1))

  line_for : (q i : ℕ) → IsBracket (first_xs lines) (q + 1) i → 0 < i → IsLineFor q (i - 1)
  line_for q i bracket some =
      let first = length-first_xs lines in
      let here = first_xs-at lines (i - 1) (omega (arith, first, bracket.within)) in
      record {
        inside = omega (arith, first, many, bracket.within);
        begins = omega (arith, here, bracket.before some);
        behind = λ more.
            let same : i - 1 + 1 ≡ i = omega arith in
            omega (
              arith,
              first_xs-at lines i (omega (arith, many, more)),
              bracket.at (omega (arith, first, many, more)),
              ap (λ (k : ℕ). slice_index lines (3 * k)) same,
            );
      }

  -- where no line begins at or before the question, it is before the first point
  before_first : (q : ℕ) → IsBracket (first_xs lines) (q + 1) 0 → 0 < p.count → q < p.x 0
  before_first q bracket some =
      let begins = are.begins some in
      let tells = are.holds.each 0 begins.0 in
      omega (
        arith,
        bracket.at (omega (arith, length-first_xs lines, many, begins.0)),
        first_xs-at lines 0 (omega (arith, many, begins.0)),
        tells.begins,
        ap p.x begins.1,
      )

  -- what a line tells, up to where the next one begins
  record TellsPlace (q line place : ℕ) : Type 0 where
    pub next : line + 1 < count → place ≡ min n (min (height_at lines line q) (first_height lines (line + 1)) - eps)
    pub last : count ≤ line + 1 → place ≡ min n (height_at lines line q - eps)

  tells_place : (q i place : ℕ) → 0 < i → IsToldBy lines eps n q i place → TellsPlace q (i - 1) place
  tells_place q i place some told =
      let same : i - 1 + 1 ≡ i = omega arith in
      record {
        next = λ more. told.between some (omega (arith, many, more))
            ∙ ap (λ (k : ℕ). min n (min (height_at lines (i - 1) q) (first_height lines k) - eps)) (sym same);
        last = λ end. told.last some (omega (arith, many, end));
      }

  -- i is the last point at or before q
  pub record IsLastPoint (q i : ℕ) : Type 0 where
    pub inside : i < p.count
    pub at_most : p.x i ≤ q
    pub last : i + 1 < p.count → q < p.x (i + 1)

  -- the point stands in the run of the line
  record StandsIn (q i line : ℕ) : Type 0 where
    pub from : start line ≤ i
    pub to : i < start (line + 1)

  stands_in : (q i line : ℕ) → IsLastPoint q i → IsLineFor q line → StandsIn q i line
  stands_in q i line here found = record { from = from; to = to }
    where
      rest : start (line + 1) ≤ p.count
      rest = run_within line found.inside

      from : start line ≤ i
      from = elim (cases_lt i (start line)) [
        | inl before ↦
            let rises = are.rise line found.inside in
            let tells = are.holds.each line found.inside in
            absurd (omega (
              arith,
              found.begins,
              tells.begins,
              here.last (omega (arith, before, rises, rest)),
              x_at_most (i + 1) (start line) (omega arith) (omega (arith, rises, rest)),
            ))
        | inr later ↦ later
      ]

      to : i < start (line + 1)
      to = elim (cases_lt (line + 1) count) [
        | inl more ↦ elim (cases_lt i (start (line + 1))) [
          | inl before ↦ before
          | inr past ↦
              let tells = are.holds.each (line + 1) more in
              absurd (omega (
                arith,
                found.behind more,
                tells.begins,
                here.at_most,
                x_at_most (start (line + 1)) i past here.inside,
              ))
        ]
        | inr last ↦ let end : line + 1 ≡ count = omega (arith, found.inside) in
            omega (arith, ap start end, are.ends, here.inside)
      ]

  -- between q and its last point is no gap
  abbrev pub IsClosed : ℕ → ℕ → Type 0
  IsClosed q i = (q ≡ p.x i) ⊎ ((i + 1 < p.count → p.y (i + 1) ≤ p.y i + 1) × (i + 1 ≡ p.count → n ≤ p.y i + 1))

  -- the place is near the height of the last point at or before q
  line_above : (q i line place : ℕ) →
      IsLastPoint q i → IsLineFor q line → TellsPlace q line place → p.y i ≤ n → p.y i ≤ place + eps + 1
  line_above q i line place here found told few =
      let stands = stands_in q i line here found in
      let tells = are.holds.each line found.inside in
      let own = tells.not_below i stands.from stands.to in
      let rises = height_rises lines line (p.x i) q here.at_most in
      elim (cases_lt (line + 1) count) [
        | inl more ↦
            let near = begins_near (line + 1) more in
            let inside = run_within (line + 1) more in
            let rise = are.rise (line + 1) more in
            omega (
              arith,
              told.next more,
              near.from,
              own,
              rises,
              few,
              ascends.y_never_falls i (start (line + 1)) (omega (arith, stands.to)) (omega (arith, inside, rise)),
            )
        | inr last ↦ omega (arith, told.last last, own, rises, few)
      ]

  line_below : (q i line place : ℕ) →
      IsLastPoint q i → IsLineFor q line → TellsPlace q line place → IsClosed q i → place ≤ p.y i + eps + 2
  line_below q i line place here found told closed =
      let stands = stands_in q i line here found in
      let tells = are.holds.each line found.inside in
      let low : place ≤ height_at lines line q - eps = elim (cases_lt (line + 1) count)
      [ inl more ↦ omega (arith, told.next more) | inr last ↦ omega (arith, told.last last) ] in
      let most : place ≤ n = elim (cases_lt (line + 1) count)
      [ inl more ↦ omega (arith, told.next more) | inr last ↦ omega (arith, told.last last) ] in
      elim closed [
        | inl same ↦ omega (arith, low, ap (height_at lines line) same, tells.not_above i stands.from stands.to)
        | inr gap ↦ elim (cases_lt (i + 1) p.count) [
          | inl more ↦ elim (cases_lt (i + 1) (start (line + 1))) [
            | inl inner ↦
                let from = stands.from in
                omega (
                  arith,
                  low,
                  gap.0 more,
                  tells.not_above (i + 1) (omega arith) inner,
                  height_rises lines line q (p.x (i + 1)) (omega (arith, here.last more)),
                )
            | inr last ↦
                let next : start (line + 1) ≡ i + 1 = omega (arith, stands.to) in
                elim (cases_lt (line + 1) count) [
                  | inl later ↦
                      omega (arith, told.next later, (begins_near (line + 1) later).to, ap p.y next, gap.0 more)
                  | inr final ↦ let all : line + 1 ≡ count = omega (arith, found.inside) in
                      absurd (omega (arith, ap start all, are.ends, next, more))
                ]
          ]
          | inr last ↦ omega (arith, most, gap.1 (omega (arith, here.inside)))
        ]
      ]

  -- what is told of a question at or behind the point i
  pub place_near : (q i k place : ℕ) → IsLastPoint q i → IsBracket (first_xs lines) (q + 1) k →
      IsToldBy lines eps n q k place → p.y i ≤ n → IsClosed q i → (p.y i ≤ place + eps + 1) × (place ≤ p.y i + eps + 2)
  place_near q i k place here bracket told few closed = elim (cases_lt 0 k) [
    | inl some ↦
        let found = line_for q k bracket some in
        let tells = tells_place q k place some told in
        (line_above q i (k - 1) place here found tells few, line_below q i (k - 1) place here found tells closed)
    | inr none ↦
        let zero_count : k ≡ 0 = omega arith in
        absurd (omega (
          arith,
          before_first q (subst (IsBracket (first_xs lines) (q + 1)) zero_count bracket) (omega (arith, here.inside)),
          x_at_most 0 i (omega arith) here.inside,
          here.at_most,
        ))
  ]

  -- what is told of a question before the first point
  pub place_before : (q k place : ℕ) →
      0 < p.count → q < p.x 0 → IsBracket (first_xs lines) (q + 1) k → IsToldBy lines eps n q k place → place ≡ 0
  place_before q k place some before bracket told = elim (cases_lt 0 k) [
    | inl more ↦
        let found = line_for q k bracket more in
        let tells = are.holds.each (k - 1) found.inside in
        let rest = run_within (k - 1) found.inside in
        let rises = are.rise (k - 1) found.inside in
        absurd (omega (
          arith,
          found.begins,
          tells.begins,
          before,
          x_at_most 0 (start (k - 1)) (omega arith) (omega (arith, rest, rises)),
        ))
    | inr none ↦ told.front (omega arith)
  ]

  -- no more is told than there are keys
  pub place_within : (q k place : ℕ) → IsToldBy lines eps n q k place → place ≤ n
  place_within q k place told = elim (cases_lt 0 k) [
    | inl some ↦ elim (cases_lt k (length lines / 3))
        [ inl more ↦ omega (arith, told.between some more) | inr last ↦ omega (arith, told.last some last) ]
    | inr none ↦ omega (arith, told.front (omega arith))
  ]
