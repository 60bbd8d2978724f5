-- What a file of hints holds changes nothing that a `find` is defined to do.
--
-- Main result: `same_outcome`.
use Rattle.std.proofs.Common.{◌≡◌, inl, inr, ℕ, List, Option, None, Some, Result, Ok, Err, refl, sym, ap, subst, ◌∙◌}
use Rattle.std.specs.Prelude.{IsSome, ⊤, not}
use Rattle.pgm_script.specs.declared.script.ScriptKind.{ScriptKind}
use Rattle.pgm_script.specs.declared.script.ScriptLine.{ScriptLine}
use Rattle.sosd_reader.specs.KeyFiles.{key_width}
use Rattle.sosd_reader.specs.NumberFiles.{Kind}
use Rattle.sosd_reader.specs.NumberFiles.Kind.{of_keys}
use Rattle.command_line.specs.Requests.{Finding, Request}
use Rattle.command_line.specs.Words.{AskFor}
use Rattle.commands.specs.Tasks.{Task}
use Rattle.program.specs.declared.refusal.Refusal.{Refusal}
use Rattle.program.specs.declared.refusal.Refusal.TheVariants.{ReadFault, TooLong, Script}
use Rattle.program.specs.Files.{HoldsOfFile, IsMissing}
use Rattle.program.specs.Inputs.{Reading, gives, questions_in, reads, reads_keys}
use Rattle.program.specs.Inputs.{reads_hints, reads_numbers, reads_script, then}
use Rattle.program.specs.Outcomes.{Defines, IsOutcome, Outcome}
use Rattle.program.specs.Outcomes.Defines.{no_command, asked}
use Rattle.program.specs.Outcomes.Outcome.{text, refused}

module _ (files others : List ℕ → Option (List ℕ)) where
  -- a file of the same bytes
  module _ (name : List ℕ) (same : files name ≡ others name) where
    holds : (P : List ℕ → Type 0) → HoldsOfFile (Some files) name P → HoldsOfFile (Some others) name P
    holds P (bytes, is, p) = (bytes, sym same ∙ is, p)

    missing : IsMissing (Some files) name → IsMissing (Some others) name
    missing (told, is, none) =
        let files_are : told ≡ files = cc in
        (others, refl, sym same ∙ subst (λ (c : List ℕ → Option (List ℕ)). c name ≡ None) files_are none)

    numbers : (wanted : Kind) (r : Result (List ℕ) Refusal) →
        reads_numbers wanted (Some files) name r → reads_numbers wanted (Some others) name r
    numbers wanted (Ok read_so) (readable, read) = (readable, holds _ read)
    numbers wanted (Err ReadFault) is = missing is
    numbers wanted (Err refusal) (fault, tells, is_of, read) = (fault, tells, is_of, holds _ read)

    script : (wanted : ScriptKind) (r : Result (List ScriptLine) Refusal) →
        reads_script wanted (Some files) name r → reads_script wanted (Some others) name r
    script wanted (Ok lines) (each, read) = (each, holds _ read)
    script wanted (Err ReadFault) is = missing is
    script wanted (Err TooLong) read = holds _ read
    script wanted (Err (Script line why)) read = holds _ read
    script wanted (Err refusal) wrong = absurd wrong

  -- a file that is there
  something : (contents : Option (List ℕ)) → IsSome contents → (bytes : List ℕ) × (contents ≡ Some bytes) × ⊤
  something None some = cc
  something (Some bytes) some = (bytes, refl, tt)

  nothing_there : (contents : Option (List ℕ)) → contents ≡ None → IsSome contents → ⊥
  nothing_there None is some = cc
  nothing_there (Some bytes) is some = cc

  hints : (name : List ℕ) → IsSome (files name) →
      IsSome (others name) → (r : Result ⊤ Refusal) → reads_hints (Some files) name r → reads_hints (Some others) name r
  hints name some also (Ok any) is = something (others name) also
  hints name some also (Err ReadFault) (told, is, none) =
      let files_are : told ≡ files = cc in
      absurd (nothing_there (files name) (subst (λ (c : List ℕ → Option (List ℕ)). c name ≡ None) files_are none) some)
  hints name some also (Err refusal) wrong = absurd wrong

  -- inputs one after the other
  then_alike : {A B : Type 0} (first first' : Reading A) (next next' : A → Reading B) →
      ((r : Result A Refusal) → first r → first' r) →
      ((x : A) (r : Result B Refusal) → next x r → next' x r) →
      (r : Result B Refusal) → then first next r → then first' next' r
  then_alike first first' next next' one two (Ok y) (x, is, more) = (x, one (Ok x) is, two x (Ok y) more)
  then_alike first first' next next' one two (Err refusal) (inl is) = inl (one (Err refusal) is)
  then_alike first first' next next' one two (Err refusal) (inr (x, is, more)) =
      inr (x, one (Ok x) is, two x (Err refusal) more)

  module _ (finding : Finding) (same_keys : files finding.file ≡ others finding.file)
      (same_script : files finding.script ≡ others finding.script)
      (some : IsSome (files finding.hints)) (also : IsSome (others finding.hints))
      (words : List (List ℕ)) (asks : AskFor words (Request.find finding)) where
    -- what is done with a script, once the keys are read
    abbrev asks_of : List ℕ → List ScriptLine → Reading Task
    asks_of keys read = gives (Task.find keys (questions_in read))

    inputs : (r : Result Task Refusal) →
        reads (Some files) (Request.find finding) r → reads (Some others) (Request.find finding) r
    inputs =
        then_alike (reads_keys (not finding.narrow) (Some files) finding.file)
        (reads_keys (not finding.narrow) (Some others) finding.file) _ _
        (numbers finding.file same_keys (of_keys (key_width (not finding.narrow))))
        (λ keys. then_alike (reads_hints (Some files) finding.hints)
        (reads_hints (Some others) finding.hints) _ _ (hints finding.hints some also)
        (λ any. then_alike (reads_script ScriptKind.Find (Some files) finding.script)
        (reads_script ScriptKind.Find (Some others) finding.script) (asks_of keys) (asks_of keys)
        (script finding.script same_script ScriptKind.Find) (λ read r is. is)))

    defines : (r : Result Task Refusal) → Defines (Some files) words r → Defines (Some others) words r
    defines r (no_command none) = no_command none
    defines r (asked request reading asks' read) =
        let same : request ≡ Request.find finding = cc (sym asks'.asks ∙ asks.asks) in
        asked (Request.find finding) reading asks
        (inputs reading (subst (λ (q : Request). reads (Some files) q reading) same read))

    pub same_outcome : (outcome : Outcome) →
        IsOutcome (Some files) words outcome → IsOutcome (Some others) words outcome
    same_outcome (text pieces) (task, defined, is) = (task, defines (Ok task) defined, is)
    same_outcome (refused refusal) is = defines (Err refusal) is
