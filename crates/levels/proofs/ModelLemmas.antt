-- A model's prediction is the floor of the line or one below, and so its window holds what is looked for.
use Rattle.std.proofs.Common.{◌≡◌, ◌⊎◌, inl, inr, ℕ, ◌+◌, ◌-◌, ◌*◌, ◌/◌, ◌^◌, ◌<◌, ◌≤◌, ℤ, pos}
use Rattle.std.proofs.Common.{◌*ℤ◌, ◌+ℤ◌, ◌-ℤ◌, ◌≤ℤ◌, ◌%◌, subst, lit<, ap, sym, ◌∙◌, arith}
use Rattle.std.proofs.lemmas.Int.{ints}
use Rattle.std.proofs.lemmas.Bool.{cases_lt}
use Rattle.std.proofs.lemmas.Nat.{div-add-mod'}
use Rattle.std.proofs.Math.Nat.{div-mul-le_self, lt-div-mul-add, mul-le-mul_left}
use Rattle.std.proofs.Math.Nat.{mul-le-mul_right, le_of_mul-le-mul_right, lt_of_mul-lt-mul_right}
use borrow.Author.Differences.{up, down}
use Rattle.exact_cross.specs.declared.line.Line.{Line}
use Rattle.exact_cross.specs.Points.{Points}
use Rattle.exact_cross.specs.Lines.{IsWithin, rational}
use Rattle.exact_cross.specs.Floors.{IsFloorAt}
use Rattle.exact_cross.proofs.CallerLemmas.{IsFloorAt-out, IsWithin-above, floor_not_below, floor_not_above}
use Rattle.window_search.specs.Windows.{IsLineOf, IsLastAtMost, IsClose, IsNext}
use Rattle.levels.specs.declared.model.RunModel.{RunModel}
use Rattle.levels.specs.Models.{IsModelOf, raised_at, clamped_at}

-- a product of a whole number with a natural, as sums of naturals
times : (z : ℤ) (n : ℕ) → up (z *ℤ pos n) + down z * n ≡ down (z *ℤ pos n) + up z * n
times z n = omega (arith, ints)

-- whole parts and fractions, each rounded down to a T-th: together they are at most one below
fraction_near : (R S whole rem fraction rest base_fraction dx T k : ℕ) → 0 < T → S ≡ whole * R + rem →
    fraction * R ≤ rem * T →
    rem * T < fraction * R + R → base_fraction * R ≤ rest * T → rest * T < base_fraction * R + R → dx < T →
    k * T ≤ base_fraction + fraction * dx → base_fraction + fraction * dx < k * T + T →
    ((whole * dx + k) * R ≤ rest + S * dx) × (rest + S * dx < (whole * dx + k + 2) * R)
fraction_near R S whole rem fraction rest base_fraction dx T k some split from to base_from base_to short low high =
    let total : S * dx ≡ whole * R * dx + rem * dx = ap (λ (n : ℕ). n * dx) split ∙ omega arith in
    let scaled : (rest + S * dx) * T
    ≡ rest * T + whole * R * dx * T + rem * T * dx = ap (λ (n : ℕ). (rest + n) * T) total ∙ omega arith in
    let from_dx = mul-le-mul_right dx from in
    let to_dx = mul-le-mul_right dx (below_one (rem * T) (fraction * R + R) to) in
    let low_run = mul-le-mul_right R low in
    let high_run = mul-le-mul_right R (below_one (base_fraction + fraction * dx) (k * T + T) high) in
    let short_run = mul-le-mul_right R (below_one dx T short) in (
      le_of_mul-le-mul_right {k = T} (omega (arith, scaled, from_dx, low_run, base_from)) some,
      lt_of_mul-lt-mul_right T (omega (arith, scaled, to_dx, high_run, short_run, base_to)),
    )
  where
    below_one : (a b : ℕ) → a < b → a + 1 ≤ b
    below_one a b less = omega arith

-- the floor at a key past the first x, by that at the first x and
-- what is over there: the model's prediction or the next number
floor_near : (line : Line) (first dx rest m : ℕ) (f0 f : ℤ) → 0 < line.run → up line.y0 * line.run
    + line.rise * first + down f0 * line.run ≡ up f0 * line.run + down line.y0 * line.run + line.rise * line.x0 + rest →
    m * line.run ≤ rest + line.rise * dx → rest + line.rise * dx < (m + 2) * line.run → IsFloorAt line (first + dx) f →
    (m + down f + up f0 ≤ up f + down f0) × (up f + down f0 ≤ m + down f + up f0 + 1)
floor_near line first dx rest m f0 f positive over from to floor =
    let (low, high) = IsFloorAt-out line (first + dx) f floor in
    let below : m + down f + up f0 < up f + down f0 + 1 = lt_of_mul-lt-mul_right line.run (omega arith) in
    let above : up f + down f0 < m + down f + up f0 + 2 = lt_of_mul-lt-mul_right line.run (omega arith) in
    (omega arith, omega arith)

-- what is known of a model's numbers: quotients, and parts rounded down
pub record HasNumbers (line : Line) (first high eps raised n : ℕ) (model : RunModel) : Type 0 where
  pub positive : 0 < line.run
  pub left : first ≤ line.x0
  pub raises : pos raised ≡ line.y0 +ℤ pos eps
  pub low : line.rise * (line.x0 - first) ≤ raised * line.run
  pub height : n ≡ raised * line.run - line.rise * (line.x0 - first)
  pub starts : model.first ≡ first
  pub ends : model.high ≡ high + eps
  pub whole : model.whole ≡ line.rise / line.run
  pub base : model.base ≡ n / line.run
  pub part_from : model.part * line.run ≤ line.rise % line.run * 2 ^ 64
  pub part_to : line.rise % line.run * 2 ^ 64 < model.part * line.run + line.run
  pub base_from : model.base_part * line.run ≤ n % line.run * 2 ^ 64
  pub base_to : n % line.run * 2 ^ 64 < model.base_part * line.run + line.run

-- the floor at the first x, which is the base less eps
floor_at_first : (line : Line) (first high eps raised n : ℕ) (model : RunModel) →
    HasNumbers line first high eps raised n model →
    up line.y0 * line.run + line.rise * first + down (pos model.base -ℤ pos eps) * line.run
    ≡ up (pos model.base -ℤ pos eps) * line.run + down line.y0 * line.run + line.rise * line.x0 + n % line.run
floor_at_first line first high eps raised n model has =
    let raises : up line.y0 + eps ≡ down line.y0 + raised = omega (arith, ints, has.raises) in
    let lowers = plain model.base eps in
    let division = div-add-mod' n line.run in
    let base = ap (λ (b : ℕ). b * line.run) has.base in
    let right : line.x0 ≡ first + (line.x0 - first) = omega (arith, has.left) in
    let reach : line.rise * line.x0
    ≡ line.rise * first + line.rise * (line.x0 - first) = ap (λ (x : ℕ). line.rise * x) right ∙ omega arith in
    omega (
      arith,
      ap (λ (t : ℕ). t * line.run) raises,
      ap (λ (t : ℕ). t * line.run) lowers,
      division,
      base,
      reach,
      has.low,
      has.height,
    )
  where
    plain : (a b : ℕ) → up (pos a -ℤ pos b) + b ≡ down (pos a -ℤ pos b) + a
    plain a b = omega (arith, ints)

near_in : (base w k eps : ℕ) (f : ℤ) → (w + k + down f + up (pos base -ℤ pos eps) ≤ up f + down (pos base -ℤ pos eps))
    × (up f + down (pos base -ℤ pos eps) ≤ w + k + down f + up (pos base -ℤ pos eps) + 1) →
    (pos (base + w + k) ≤ℤ (f +ℤ pos eps)) × ((f +ℤ pos eps) ≤ℤ pos (base + w + k + 1))
near_in base w k eps f near = (omega (arith, ints, near.0), omega (arith, ints, near.1))

pub IsModelOf-in : (line : Line) (first high eps raised n : ℕ) (model : RunModel) →
    HasNumbers line first high eps raised n model → IsModelOf line first high eps model
IsModelOf-in line first high eps raised n model has = record { starts = has.starts; ends = has.ends; near = near }
  where
    split : line.rise ≡ model.whole * line.run + line.rise % line.run
    split = sym (div-add-mod' line.rise line.run) ∙ ap (λ (w : ℕ). w * line.run + line.rise % line.run) (sym has.whole)

    near : (q : ℕ) (f : ℤ) → first ≤ q → q < 2 ^ 64 → IsFloorAt line q f →
        (pos (raised_at model q) ≤ℤ (f +ℤ pos eps)) × ((f +ℤ pos eps) ≤ℤ pos (raised_at model q + 1))
    near q f from short floor =
        let dx = q - model.first in
        let right : q ≡ first + (q - model.first) = omega (arith, has.starts) in
        let steps = model.base_part + model.part * (q - model.first) in
        let k = (model.base_part + model.part * (q - model.first)) / 2 ^ 64 in
        let both = fraction_near line.run line.rise model.whole (line.rise % line.run) model.part
        (n % line.run) model.base_part (q - model.first) (2 ^ 64) k (lit< tt) split has.part_from has.part_to
        has.base_from has.base_to
        (omega (arith, short, has.starts)) (div-mul-le_self steps (2 ^ 64)) (lt-div-mul-add (lit< tt)) in
        near_in model.base (model.whole * (q - model.first)) k eps f
        (floor_near line first (q - model.first) (n % line.run) (model.whole * (q - model.first) + k)
        (pos model.base -ℤ pos eps) f has.positive (floor_at_first line first high eps raised n model has)
        both.0 both.1 (subst (λ (x : ℕ). IsFloorAt line x f) right floor))

-- ---- the floor of a line that fits

-- a line that is no higher at q than at the point j is at most eps above that point there
floor_not_above_point : (p : Points) (eps : ℕ) (line : Line) (positive : 0 < line.run) (j q : ℕ) (f : ℤ) →
    IsWithin p eps (rational line positive) j → line.rise * q ≤ line.rise * p.x j →
    IsFloorAt line q f → up f ≤ down f + p.y j + eps
floor_not_above_point p eps line positive j q f within climb floor =
    let (low, next) = IsFloorAt-out line q f floor in
    let base = times line.y0 line.run in
    let above = IsWithin-above p eps (rational line positive) j within in
    le_of_mul-le-mul_right {k = line.run} (omega (arith, ints)) positive

-- and one that is lower at q is less than eps above it
floor_below_point : (p : Points) (eps : ℕ) (line : Line) (positive : 0 < line.run) (j q : ℕ) (f : ℤ) →
    IsWithin p eps (rational line positive) j → line.rise * q < line.rise * p.x j →
    IsFloorAt line q f → up f < down f + p.y j + eps
floor_below_point p eps line positive j q f within climb floor =
    let (low, next) = IsFloorAt-out line q f floor in
    let base = times line.y0 line.run in
    let above = IsWithin-above p eps (rational line positive) j within in
    lt_of_mul-lt-mul_right line.run (omega (arith, ints))

-- between two points, of which the right one is at most one higher, the floor is at most eps above the left one
floor_between : (p : Points) (eps : ℕ) (line : Line) (positive : 0 < line.run) (i q : ℕ) (f : ℤ) →
    IsWithin p eps (rational line positive) i → IsWithin p eps (rational line positive) (i + 1) →
    q < p.x (i + 1) → p.y (i + 1) ≤ p.y i + 1 → IsFloorAt line q f → up f ≤ down f + p.y i + eps
floor_between p eps line positive i q f here next left step floor = elim (cases_lt 0 line.rise) [
  | inl climbs ↦
      let more = mul-le-mul_left line.rise (after q (p.x (i + 1)) left) in
      omega (arith, floor_below_point p eps line positive (i + 1) q f next (omega (arith, more, climbs)) floor)
  | inr level ↦
      let flat : line.rise ≡ 0 = omega arith in
      floor_not_above_point p eps line positive i q f here
      (omega (arith, ap (λ (r : ℕ). r * q) flat, ap (λ (r : ℕ). r * p.x i) flat)) floor
]
  where
    after : (a b : ℕ) → a < b → a + 1 ≤ b
    after a b less = omega arith

-- the line of a run at q: at most eps below the last point at or
-- before q, and at most eps above it, or that is the run's last point
floor_of_run : (p : Points) (eps : ℕ) (line : Line) (low high s e q i : ℕ) (f : ℤ) →
    IsLineOf p eps line low high s e → IsLastAtMost p s e q i → IsClose p e q i → IsFloorAt line q f →
    (p.y i + down f ≤ up f + eps) × ((p.y i ≡ high) ⊎ (up f ≤ down f + p.y i + eps))
floor_of_run p eps line low high s e q i f run last close floor = (
  floor_not_below p eps line run.positive i q f (run.fits i last.from_start last.to_end) last.at_most floor,
  elim close [
    | inl same ↦
        inr (floor_not_above p eps line run.positive i q f (run.fits i last.from_start last.to_end) (omega arith) floor)
    | inr (inl end) ↦ inl (at_end end)
    | inr (inr step) ↦ elim (cases_lt (i + 1) e) [
      | inl inner ↦
          let from = last.from_start in
          inr (floor_between p eps line run.positive i q f (run.fits i last.from_start last.to_end)
          (run.fits (i + 1) (omega arith) inner) (last.last inner) step floor)
      | inr end ↦ let to = last.to_end in inl (at_end (omega arith))
    ]
  ],
)
  where
    at_end : i + 1 ≡ e → p.y i ≡ high
    at_end end = let here : e - 1 ≡ i = omega arith in sym (run.highest ∙ ap p.y here)

-- ---- the window of a model

pub model_holds : (p : Points) (eps : ℕ) (line : Line) (model : RunModel) (low high s e q i place : ℕ) (f : ℤ) →
    IsModelOf line (p.x s) high eps model → q < 2 ^ 64 → p.x s ≤ q → IsFloorAt line q f →
    IsLineOf p eps line low high s e → IsLastAtMost p s e q i → IsClose p e q i → IsNext p i place →
    (clamped_at model q - 2 * eps ≤ place) × (place ≤ clamped_at model q + 2)
model_holds p eps line model low high s e q i place f is short from floor run last close next =
    let near = is.near q f from short floor in
    let at = floor_of_run p eps line low high s e q i f run last close floor in
    let highest =
    run.ascending.y_never_falls i (e - 1) (omega (arith, last.to_end)) (omega (arith, run.some, run.inside)) in
    elim at.1 [
      | inl final ↦ (
        omega (arith, ints, is.ends, final, next.from, near.0, near.1, at.0),
        omega (arith, ints, is.ends, final, next.to, near.0, near.1, at.0),
      )
      | inr above ↦ (
        omega (arith, ints, is.ends, next.from, near.0, near.1, at.0),
        omega (arith, ints, is.ends, highest, run.highest, next.to, near.0, near.1, at.0),
      )
    ]
