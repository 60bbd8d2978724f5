-- The metrics that a call from C can name.
use Rattle.std.specs.Prelude.{◌≡◌, ◌⊎◌, ◌==◌, if◌then◌else◌, ℕ, ◌+◌, ◌*◌, max}
use Rattle.kuldebiq.specs.declared.near_calls.TheConstants.{CHEBYSHEV, EUCLID}

-- there is a metric of this number
abbrev pub IsMetric : ℕ → Type 0
IsMetric metric = (metric ≡ CHEBYSHEV) ⊎ (metric ≡ EUCLID)

-- what the difference of one more coordinate makes of a distance by the metric of a number
abbrev pub step_of : ℕ → ℕ → ℕ → ℕ
step_of metric so_far apart = if metric == CHEBYSHEV then max so_far apart else so_far + apart * apart
