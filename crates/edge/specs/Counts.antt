-- Counts of faults, which say that a failure had a cause.
use Rattle.std.specs.Prelude.{◌≡◌, ℕ, ◌≤◌, Result, OnOk, OnErr}
use Rattle.edge.specs.declared.failed.Failed.{Failed}
use Rattle.edge.specs.Risen.{HasRisen}

-- the call failed only where the count rose, and else left it as it was
pub record HasCause {T : Type 0} (before after : ℕ) (result : Result T Failed) : Type 0 where
  pub never_falls : before ≤ after
  pub failed : OnErr result (HasRisen before after)
  pub ok : OnOk result (after ≡ before)
