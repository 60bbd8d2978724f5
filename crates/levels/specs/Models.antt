-- Models of the runs, by which a lookup predicts places without a division.
use Rattle.std.specs.Prelude.{◌≡◌, ℕ, ◌+◌, ◌-◌, ◌*◌, ◌/◌, ◌^◌, ◌<◌, ◌≤◌, min}
use Rattle.std.specs.Prelude.{ℤ, pos, ◌+ℤ◌, ◌≤ℤ◌, List, length, slice_index_or}
use Rattle.exact_cross.specs.declared.line.Line.{Line}
use Rattle.exact_cross.specs.declared.segment.Segment.{Segment}
use Rattle.exact_cross.specs.Points.{Points}
use Rattle.exact_cross.specs.Floors.{IsFloorAt}
use Rattle.levels.specs.declared.model.RunModel.{RunModel}

-- the place that a model says for q, raised by the error bound
abbrev pub raised_at : RunModel → ℕ → ℕ
raised_at model q =
    model.base + model.whole * (q - model.first) + (model.base_part + model.part * (q - model.first)) / 2 ^ 64

-- the same, clamped to the raised height of the run's last point
abbrev pub clamped_at : RunModel → ℕ → ℕ
clamped_at model q = min (raised_at model q) model.high

-- the model of a line from the x `first` on: it says the floor of the line, raised by eps, or the number below it
pub record IsModelOf (line : Line) (first high eps : ℕ) (model : RunModel) : Type 0 where
  pub starts : model.first ≡ first
  pub ends : model.high ≡ high + eps
  pub near : (q : ℕ) (f : ℤ) → first ≤ q → q < 2 ^ 64 → IsFloorAt line q f →
      (pos (raised_at model q) ≤ℤ (f +ℤ pos eps)) × ((f +ℤ pos eps) ≤ℤ pos (raised_at model q + 1))

-- the k-th run ends where the next one starts, the last one at the end of all
pub record IsEndOf (segments : List Segment) (to k e : ℕ) : Type 0 where
  pub next : (d : Segment) → k + 1 < length segments → e ≡ (slice_index_or segments (k + 1) d).start
  pub last : length segments ≡ k + 1 → e ≡ to

-- a model for each run, by its line, its first x and the height of its last point
pub record AreModels (p : Points) (eps to : ℕ) (segments : List Segment) (models : List RunModel) : Type 0 where
  pub count : length models ≡ length segments
  pub each : (k e : ℕ) (d : Segment) (m : RunModel) → k < length segments → IsEndOf segments to k e →
      IsModelOf (slice_index_or segments k d).line
      (p.x (slice_index_or segments k d).start) (p.y (e - 1)) eps (slice_index_or models k m)
