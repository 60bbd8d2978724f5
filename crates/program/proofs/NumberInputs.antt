-- The numbers of a file as an input.
--
-- Main result: told files define one reading of it (`numbers_one`),
-- since any bytes have one reading as a file of this kind.
use Rattle.std.proofs.Common.{◌≡◌, ◌⊎◌, inl, inr, ℕ, List, Option, None, Some, Result, Ok, Err, refl, sym, subst, ◌∙◌}
use Rattle.sosd_reader.specs.declared.fault.KeyFault.{KeyFault}
use Rattle.sosd_reader.specs.NumberFiles.{Kind}
use Rattle.sosd_reader.specs.FileFaults.{ReadsAsFile}
use Rattle.sosd_reader.proofs.Unique.{one-file-reading}
use Rattle.program.specs.declared.refusal.Refusal.{Refusal}
use Rattle.program.specs.declared.refusal.Refusal.TheVariants.{ReadFault}
use Rattle.program.specs.Files.{HoldsOfFile, IsFaultOf}
use Rattle.program.specs.Refusals.{refusal_of}
use Rattle.program.specs.Inputs.{reads_numbers}
use Rattle.program.proofs.InputLemmas.{IsFunctional}

module _ (asked : Kind) where
  -- the reading of the bytes that a reading of the input rests on
  abbrev Tells : Result (List ℕ) KeyFault → Result (List ℕ) Refusal → Type 0
  Tells (Ok numbers) reading = reading ≡ Ok numbers
  Tells (Err fault) reading = (refusal : Refusal) × (refusal_of fault ≡ Some refusal) × (reading ≡ Err refusal)

  tells_one : (of_bytes : Result (List ℕ) KeyFault) (one two : Result (List ℕ) Refusal) →
      Tells of_bytes one → Tells of_bytes two → one ≡ two
  tells_one (Ok numbers) one two is same = is ∙ sym same
  tells_one (Err fault) one two (r, of_fault, is) (q, of_fault', same) = cc

  -- of told files: the file isn't there, or its bytes have the reading
  abbrev Rests : (List ℕ → Option (List ℕ)) → List ℕ → Result (List ℕ) Refusal → Type 0
  Rests contents name reading = ((contents name ≡ None) × (reading ≡ Err ReadFault))
      ⊎ ((bytes : List ℕ) × (of_bytes : Result (List ℕ) KeyFault)
      × (contents name ≡ Some bytes) × ReadsAsFile asked bytes of_bytes × Tells of_bytes reading)

  rests_on_fault : (contents : List ℕ → Option (List ℕ)) (name : List ℕ) (refusal : Refusal) →
      ((fault : KeyFault) × (refusal_of fault ≡ Some refusal)
      × IsFaultOf asked fault × HoldsOfFile (Some contents) name (λ bytes. ReadsAsFile asked bytes (Err fault))) →
      Rests contents name (Err refusal)
  rests_on_fault contents name refusal (fault, tells, is_of, holds) =
      inr (holds.0, Err fault, holds.1, holds.2, (refusal, tells, refl))

  rests : (contents : List ℕ → Option (List ℕ)) (name : List ℕ) (reading : Result (List ℕ) Refusal) →
      reads_numbers asked (Some contents) name reading →
      Rests contents name reading
  rests contents name (Ok numbers) (readable, holds) = inr (holds.0, Ok numbers, holds.1, holds.2, refl)
  rests contents name (Err ReadFault) (told, is, none) =
      let same : told ≡ contents = cc in
      inl (subst (λ (c : List ℕ → Option (List ℕ)). c name ≡ None) same none, refl)
  rests contents name (Err refusal) is = rests_on_fault contents name refusal is

  one_rest : (contents : List ℕ → Option (List ℕ)) (name : List ℕ) (one two : Result (List ℕ) Refusal) →
      Rests contents name one →
      Rests contents name two → one ≡ two
  one_rest contents name one two (inl (none, is)) (inl (none', same)) = is ∙ sym same
  one_rest contents name one two (inl (none, is)) (inr (bytes, of_bytes, some, read, tells)) = cc
  one_rest contents name one two (inr (bytes, of_bytes, some, read, tells)) (inl (none, is)) = cc
  one_rest contents name one two
      (inr (bytes, of_bytes, some, read, tells)) (inr (bytes', of_bytes', some', read', tells')) =
      let same_bytes : bytes' ≡ bytes = cc in
      let same : of_bytes' ≡ of_bytes = one-file-reading asked bytes of_bytes' of_bytes
      (subst (λ (b : List ℕ). ReadsAsFile asked b of_bytes') same_bytes read') read in
      tells_one of_bytes one two tells (subst (λ (r : Result (List ℕ) KeyFault). Tells r two) same tells')

  pub numbers_one : (contents : List ℕ → Option (List ℕ)) (name : List ℕ) →
      IsFunctional (reads_numbers asked (Some contents) name)
  numbers_one contents name one two is same =
      one_rest contents name one two (rests contents name one is) (rests contents name two same)
