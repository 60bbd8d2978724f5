-- Updates that senders may send.
use Rattle.std.specs.Prelude.{Bool, true, false}
use Rattle.log_levels.specs.declared.update.Update.{Update}
use Rattle.log_levels.specs.declared.update.Update.TheVariants.{Put, Del, Sweep}

-- whether an update is no sweep
abbrev pub is_plain : Update → Bool
is_plain (Put key value) = true
is_plain (Del key) = true
is_plain (Sweep low high) = false
