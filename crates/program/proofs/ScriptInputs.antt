-- The script of a file as an input.
--
-- Main result: told files define one reading of it (`script_one`), since any text has one reading as a script.
use Rattle.std.proofs.Common.{◌≡◌, ◌⊎◌, inl, inr, ℕ, ◌<◌, ◌≤◌, List, length, Option, None}
use Rattle.std.proofs.Common.{Some, Result, Ok, Err, refl, sym, ap, subst, ◌∙◌, arith}
use Rattle.pgm_script.specs.declared.fault.ScriptFault.{ScriptFault}
use Rattle.pgm_script.specs.declared.fault.ScriptFault.TheVariants as script
use Rattle.pgm_script.specs.declared.script.ScriptKind.{ScriptKind}
use Rattle.pgm_script.specs.declared.script.ScriptLine.{ScriptLine}
use Rattle.pgm_script.specs.Scripts.{ReadsAs}
use Rattle.pgm_script.proofs.ScriptLemmas.{has-one-reading}
use Rattle.program.specs.declared.refusal.Refusal.{Refusal}
use Rattle.program.specs.declared.refusal.Refusal.TheVariants.{ReadFault, TooLong, Script}
use Rattle.program.specs.declared.inputs.TheConstants.{SCRIPT_LIMIT}
use Rattle.program.specs.Inputs.{reads_script}
use Rattle.program.proofs.InputLemmas.{IsFunctional}

module _ (kind : ScriptKind) (contents : List ℕ → Option (List ℕ)) (name : List ℕ) where
  -- the reading of the file's bytes that a reading of the input rests on
  abbrev Tells : List ℕ → Result (List ScriptLine) Refusal → Type 0
  Tells bytes (Ok lines) = (length bytes ≤ SCRIPT_LIMIT) × ReadsAs kind bytes (Ok lines)
  Tells bytes (Err (Script line why)) = (length bytes ≤ SCRIPT_LIMIT) × ReadsAs kind bytes (Err (script.At line why))
  Tells bytes (Err TooLong) = SCRIPT_LIMIT < length bytes
  Tells bytes (Err refusal) = ⊥

  abbrev Rests : Result (List ScriptLine) Refusal → Type 0
  Rests reading = ((contents name ≡ None) × (reading ≡ Err ReadFault))
      ⊎ ((bytes : List ℕ) × (contents name ≡ Some bytes) × Tells bytes reading)

  rests : (reading : Result (List ScriptLine) Refusal) → reads_script kind (Some contents) name reading → Rests reading
  rests (Ok lines) (each, holds) = inr (holds.0, holds.1, holds.2)
  rests (Err ReadFault) (told, is, none) =
      let same : told ≡ contents = cc in
      inl (subst (λ (c : List ℕ → Option (List ℕ)). c name ≡ None) same none, refl)
  rests (Err TooLong) holds = inr (holds.0, holds.1, holds.2)
  rests (Err (Script line why)) holds = inr (holds.0, holds.1, holds.2)
  rests (Err refusal) wrong = absurd wrong

  same_reading : (bytes : List ℕ) (one two : Result (List ScriptLine) ScriptFault) →
      ReadsAs kind bytes one → ReadsAs kind bytes two → one ≡ two
  same_reading bytes one two is same = let only = (has-one-reading kind bytes).only in only one is ∙ sym (only two same)

  tells_one : (bytes : List ℕ) (one two : Result (List ScriptLine) Refusal) →
      Tells bytes one → Tells bytes two → one ≡ two
  tells_one bytes (Ok lines) (Ok others) is same = ap Ok (cc (same_reading bytes (Ok lines) (Ok others) is.1 same.1))
  tells_one bytes (Ok lines) (Err (Script line why)) is same =
      absurd (cc (same_reading bytes (Ok lines) (Err (script.At line why)) is.1 same.1))
  tells_one bytes (Ok lines) (Err TooLong) is same = absurd (omega (arith, is.0, same))
  tells_one bytes (Ok lines) (Err refusal) is same = absurd same
  tells_one bytes (Err (Script line why)) (Ok lines) is same =
      absurd (cc (same_reading bytes (Err (script.At line why)) (Ok lines) is.1 same.1))
  tells_one bytes (Err (Script line why)) (Err (Script other reason)) is same =
      let one : Err (script.At line why) ≡ Err (script.At other reason) =
      same_reading bytes (Err (script.At line why)) (Err (script.At other reason)) is.1 same.1 in
      cc
  tells_one bytes (Err (Script line why)) (Err TooLong) is same = absurd (omega (arith, is.0, same))
  tells_one bytes (Err (Script line why)) (Err refusal) is same = absurd same
  tells_one bytes (Err TooLong) (Ok lines) is same = absurd (omega (arith, same.0, is))
  tells_one bytes (Err TooLong) (Err (Script line why)) is same = absurd (omega (arith, same.0, is))
  tells_one bytes (Err TooLong) (Err TooLong) is same = refl
  tells_one bytes (Err TooLong) (Err refusal) is same = absurd same
  tells_one bytes (Err refusal) two is same = absurd is

  one_rest : (one two : Result (List ScriptLine) Refusal) → Rests one → Rests two → one ≡ two
  one_rest one two (inl (none, is)) (inl (none', same)) = is ∙ sym same
  one_rest one two (inl (none, is)) (inr (bytes, some, tells)) = cc
  one_rest one two (inr (bytes, some, tells)) (inl (none, is)) = cc
  one_rest one two (inr (bytes, some, tells)) (inr (bytes', some', tells')) =
      let same_bytes : bytes' ≡ bytes = cc in
      tells_one bytes one two tells (subst (λ (b : List ℕ). Tells b two) same_bytes tells')

  pub script_one : IsFunctional (reads_script kind (Some contents) name)
  script_one one two is same = one_rest one two (rests one is) (rests two same)
