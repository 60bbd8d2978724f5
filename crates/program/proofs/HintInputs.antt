-- A file of hints as an input: told files define one reading of it (`hints_one`).
use Rattle.std.proofs.Common.{◌≡◌, ℕ, List, Option, None, Some, Ok, Err, refl, subst}
use Rattle.std.specs.Prelude.{⊤}
use Rattle.program.specs.declared.refusal.Refusal.TheVariants.{ReadFault}
use Rattle.program.specs.Files.{HoldsOfFile, IsMissing}
use Rattle.program.specs.Inputs.{reads_hints}
use Rattle.program.proofs.InputLemmas.{IsFunctional}

module _ (contents : List ℕ → Option (List ℕ)) (name : List ℕ) where
  there_or_not : HoldsOfFile (Some contents) name (λ bytes. ⊤) → IsMissing (Some contents) name → ⊥
  there_or_not (bytes, some, any) (told, is, none) =
      let same : told ≡ contents = cc in
      let nothing : contents name ≡ None = subst (λ (c : List ℕ → Option (List ℕ)). c name ≡ None) same none in
      cc

  pub hints_one : IsFunctional (reads_hints (Some contents) name)
  hints_one (Ok one) (Ok two) is same = refl
  hints_one (Ok one) (Err ReadFault) is same = absurd (there_or_not is same)
  hints_one (Ok one) (Err refusal) is same = absurd same
  hints_one (Err ReadFault) (Ok two) is same = absurd (there_or_not same is)
  hints_one (Err ReadFault) (Err ReadFault) is same = refl
  hints_one (Err ReadFault) (Err refusal) is same = absurd same
  hints_one (Err refusal) two is same = absurd is
