-- How a call that reads a request's inputs answers.
use Rattle.std.specs.Prelude.{◌≡◌, ℕ, ◌<◌, ◌≤◌, Option, None, Some, Result, Ok, Err, IfOk, OnOk, IfErr, ⊤}
use Rattle.edge.specs.Risen.{HasRisen}
use Rattle.sosd_reader.specs.declared.fault.KeyFault.{KeyFault}
use Rattle.program.specs.declared.refusal.Refusal.{Refusal}
use Rattle.program.specs.declared.refusal.Refusal.TheVariants.{ReadFault}
use Rattle.program.specs.declared.refusal.Stopped.{Stopped}
use Rattle.program.specs.declared.refusal.Stopped.TheVariants.{NoMemory, Refused}
use Rattle.pgm_script.specs.declared.fault.ScriptFault.{ScriptFault}
use Rattle.index_file.specs.declared.fault.IndexFault.{IndexFault}
use Rattle.index_file.specs.declared.fault.CheckFault.{CheckFault}
use Rattle.program.specs.Refusals.{refusal_of, refusal_of_script, refusal_of_index, refusal_of_check}
use Rattle.program.specs.Inputs.{Reading}

-- want of memory, or the refusal that tells the fault
abbrev pub stop_of_refusal : Option Refusal → Stopped
stop_of_refusal None = NoMemory
stop_of_refusal (Some refusal) = Refused refusal

abbrev pub IsStopOf : KeyFault → Stopped → Type 0
IsStopOf fault stopped = stopped ≡ stop_of_refusal (refusal_of fault)

abbrev pub IsStopOfScript : ScriptFault → Stopped → Type 0
IsStopOfScript fault stopped = stopped ≡ stop_of_refusal (refusal_of_script fault)

abbrev pub IsStopOfIndex : IndexFault → Stopped → Type 0
IsStopOfIndex fault stopped = stopped ≡ stop_of_refusal (refusal_of_index fault)

abbrev pub IsStopOfCheck : CheckFault → Stopped → Type 0
IsStopOfCheck fault stopped = stopped ≡ stop_of_refusal (refusal_of_check fault)

-- why a call stopped: want of memory is free, ReadFault comes where the count rose, and else the files define it
abbrev pub IsStopped : {A : Type 0} → Reading A → (before after : ℕ) → Stopped → Type 0
IsStopped reading before after NoMemory = ⊤
IsStopped reading before after (Refused ReadFault) = HasRisen before after
IsStopped reading before after (Refused refusal) = reading (Err refusal)

-- the call answers what the files define, unless a call on them failed or memory ran out
pub record Answers {A B : Type 0}
    (reading : Reading A) (value_of : B → A) (before after : ℕ) (result : Result B Stopped) : Type 0 where
  pub ok : IfOk result (λ value. reading (Ok (value_of value)))
  pub unfaulted : OnOk result (after ≡ before)
  pub stopped : IfErr result (IsStopped reading before after)
  pub faulted : before < after → result ≡ Err (Refused ReadFault)
  pub never_falls : before ≤ after
