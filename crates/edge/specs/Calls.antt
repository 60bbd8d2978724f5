-- One call of a device in memory.
use Rattle.std.specs.Prelude.{◌≡◌, Result, OnErr, IsErr}
use Rattle.edge.specs.declared.failed.Failed.{Failed}
use Rattle.edge.specs.Device.{Device, next_call}

-- the call is counted, and fails exactly where it has to
pub record FailsWhere {T : Type 0} (HasTo : Type 0) (old : Device) (result : Result T Failed) (new : Device) :
    Type 0 where
  pub counted : new ≡ next_call old
  pub cause : OnErr result HasTo
  pub wherever : HasTo → IsErr result
