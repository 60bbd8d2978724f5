-- Where files are told, they and the words define one task or one refusal.
--
-- Main results: what came decides how all that is defined ends
-- (`it_ends`, `stopped_ends`); what stopped the reading of the
-- inputs is the cause of the refusal (`stopped_cause`).
use Rattle.std.proofs.Common.{◌≡◌, ◌⊎◌, inl, inr, ℕ, List, Option, None, Some, Result, Err, refl, sym, ◌∙◌, subst}
use Rattle.std.specs.Prelude.{IsSome}
use Rattle.program.specs.declared.refusal.Refusal.{Refusal}
use Rattle.program.specs.declared.refusal.Refusal.TheVariants.{ReadFault}
use Rattle.program.specs.declared.refusal.Stopped.TheVariants.{Refused}
use Rattle.program.specs.declared.status.Status.{Status}
use Rattle.program.specs.declared.status.Status.TheVariants as ends
use Rattle.program.specs.Files.{Files}
use Rattle.program.specs.Refusals.{status_of}
use Rattle.command_line.specs.Requests.{Request}
use Rattle.commands.specs.Tasks.{Task}
use Rattle.command_line.specs.Words.{AreRefused, AskFor}
use Rattle.program.specs.Inputs.{reads}
use Rattle.program.specs.Stops.{IsStopped}
use Rattle.program.specs.Outcomes.{Defines, IsCause, EndsAs}
use Rattle.program.specs.Outcomes.Defines.{no_command, asked}
use Rattle.program.proofs.OneReading.{reads_one}

-- files that are told have contents
told : (files : Files) (P : Files → Type 0) →
    IsSome files → ((contents : List ℕ → Option (List ℕ)) → P (Some contents)) → P files
told None P some h = cc
told (Some contents) P some h = h contents

-- what the words and the files define is one reading
abbrev Reads : Files → List (List ℕ) → Request → Result Task Refusal → Type 0
Reads files words request reading = AskFor words request × reads files request reading

same_reading :
    (contents : List ℕ → Option (List ℕ)) (words : List (List ℕ)) (one two : Request) (a b : Result Task Refusal) →
    Reads (Some contents) words one a → Reads (Some contents) words two b → a ≡ b
same_reading contents words one two a b h k =
    let same : two ≡ one = cc (sym h.0.asks ∙ k.0.asks) in
    reads_one contents one a b h.1 (subst (λ (r : Request). reads (Some contents) r b) same k.1)

-- a reading that came decides how what is defined ends
ends_told : (contents : List ℕ → Option (List ℕ))
    (words : List (List ℕ)) (request : Request) (came defined : Result Task Refusal) (status : Status) →
    Reads (Some contents) words request came →
    EndsAs came status → Defines (Some contents) words defined → EndsAs defined status
ends_told contents words request came defined status read is (no_command refused) = absurd (refused read.0.taken)
ends_told contents words request came defined status read is (asked other reading asks reads) =
    subst (λ (r : Result Task Refusal). EndsAs r status)
    (same_reading contents words request other came reading read (asks, reads)) is

pub it_ends : (files : Files)
    (words : List (List ℕ)) (request : Request) (came defined : Result Task Refusal) (status : Status) → IsSome files →
    Reads files words request came → EndsAs came status → Defines files words defined → EndsAs defined status
it_ends files words request came defined status some =
    told files (λ (f : Files). Reads f words request came →
    EndsAs came status → Defines f words defined → EndsAs defined status)
    some (λ contents. ends_told contents words request came defined status)

module _ (files : Files) (words : List (List ℕ)) (request : Request) (before after : ℕ) where
  pub stopped_cause : (refusal : Refusal) →
      AskFor words request → IsStopped (reads files request) before after (Refused refusal) →
      IsCause files words before after refusal
  stopped_cause ReadFault asks is = is
  stopped_cause refusal asks is = asked request _ asks is

  ends_so : (refusal : Refusal) (defined : Result Task Refusal) →
      AskFor words request → reads files request (Err refusal) → IsSome files →
      Defines files words defined → EndsAs defined (status_of refusal)
      ⊎ (status_of refusal ≡ ends.NoMemory) ⊎ (status_of refusal ≡ ends.ReadFault)
  ends_so refusal defined asks is some defines =
      inl (it_ends files words request (Err refusal) defined (status_of refusal) some (asks, is) refl defines)

  pub stopped_ends : (refusal : Refusal) (defined : Result Task Refusal) →
      AskFor words request → IsStopped (reads files request) before after (Refused refusal) →
      IsSome files → Defines files words defined →
      EndsAs defined (status_of refusal) ⊎ (status_of refusal ≡ ends.NoMemory) ⊎ (status_of refusal ≡ ends.ReadFault)
  stopped_ends ReadFault defined asks is some defines = inr (inr refl)
  stopped_ends refusal defined asks is some defines = ends_so refusal defined asks is some defines

-- words that are refused define that alone
pub refused_ends : (files : Files) (words : List (List ℕ)) (defined : Result Task Refusal) (status : Status) →
    AreRefused words → status ≡ ends.Usage →
    Defines files words defined → EndsAs defined status
refused_ends files words defined status refused is (no_command none) = is
refused_ends files words defined status refused is (asked request reading asks reads) = absurd (refused asks.taken)
