-- Told files define one reading of each request.
use Rattle.std.proofs.Common.{◌≡◌, ℕ, not, List, Option, Some, Ok, Err, ap, sym, ◌∙◌, arith}
use Rattle.pgm_script.specs.declared.script.ScriptKind.{ScriptKind}
use Rattle.sosd_reader.specs.KeyFiles.{key_width}
use Rattle.sosd_reader.specs.NumberFiles.Kind.{of_keys, of_points}
use Rattle.command_line.specs.Requests.{Building, Request}
use Rattle.command_line.specs.Requests.Request.{build, explain, query, relax, box}
use Rattle.command_line.specs.Requests.Request.{near, replay, mix, drill, save, check}
use Rattle.commands.specs.Tasks.{Task}
use Rattle.program.specs.declared.refusal.Refusal.TheVariants.{Full}
use Rattle.program.specs.Inputs.{reads, reads_index, reads_keys, reads_points, reads_saved, reads_within}
use Rattle.program.proofs.InputLemmas.{IsFunctional, then_one, gives_one}
use Rattle.program.proofs.NumberInputs.{numbers_one}
use Rattle.program.proofs.ScriptInputs.{script_one}
use Rattle.program.proofs.SavedInputs.{saved_one, judges_one}
use Rattle.program.proofs.HintInputs.{hints_one}

-- whether there is room is a matter of two numbers
within_one : (count room : ℕ) (task : Task) → IsFunctional (reads_within count room task)
within_one count room task (Ok one) (Ok other) is same = ap Ok (is.1 ∙ sym same.1)
within_one count room task (Ok one) (Err (Full asked left)) is same =
    absurd (omega (arith, is.0, same.0, same.1, same.2))
within_one count room task (Ok one) (Err refusal) is same = absurd same
within_one count room task (Err (Full asked left)) (Ok other) is same = absurd (omega (arith, same.0, is.0, is.1, is.2))
within_one count room task (Err refusal) (Ok other) is same = absurd is
within_one count room task (Err (Full asked left)) (Err (Full others rest)) is same =
    let one : asked ≡ others = is.0 ∙ sym same.0 in
    let two : left ≡ rest = is.1 ∙ sym same.1 in
    cc
within_one count room task (Err (Full asked left)) (Err refusal) is same = absurd same
within_one count room task (Err refusal) other is same = absurd is

module _ (contents : List ℕ → Option (List ℕ)) where
  index_one : (building : Building) → IsFunctional (reads_index (Some contents) building)
  index_one building = numbers_one (of_keys (key_width (not building.narrow))) contents building.file

  pub reads_one : (request : Request) → IsFunctional (reads (Some contents) request)
  reads_one (build building) =
      then_one (reads_index (Some contents) building) _ (index_one building) (λ keys. gives_one _)
  reads_one (explain building) =
      then_one (reads_index (Some contents) building) _ (index_one building) (λ keys. gives_one _)
  reads_one (query building name windows bits) = then_one (reads_index (Some contents) building) _ (index_one building)
      (λ keys. then_one _ _ (script_one ScriptKind.Find contents name) (λ lines. gives_one _))
  reads_one (relax building name pieces) = then_one (reads_index (Some contents) building) _ (index_one building)
      (λ keys. then_one _ _ (script_one ScriptKind.Find contents name) (λ lines. gives_one _))
  reads_one (box searching) = then_one (reads_points searching.dims (Some contents) searching.file) _
      (numbers_one (of_points searching.dims) contents searching.file)
      (λ coords.
      then_one _ _ (script_one (ScriptKind.Region searching.dims) contents searching.script) (λ lines. gives_one _))
  reads_one (near searching) = then_one (reads_points searching.dims (Some contents) searching.file) _
      (numbers_one (of_points searching.dims) contents searching.file)
      (λ coords.
      then_one _ _ (script_one (ScriptKind.Near searching.dims) contents searching.script) (λ lines. gives_one _))
  reads_one (replay replaying) =
      then_one _ _ (script_one ScriptKind.Replay contents replaying.script) (λ lines. within_one _ _ _)
  reads_one (mix replaying senders) =
      then_one _ _ (script_one ScriptKind.Mix contents replaying.script) (λ lines. within_one _ _ _)
  reads_one (Request.hints hinting) = then_one (reads_keys (not hinting.narrow) (Some contents) hinting.file) _
      (numbers_one (of_keys (key_width (not hinting.narrow))) contents hinting.file) (λ keys. gives_one _)
  reads_one (Request.find finding) = then_one (reads_keys (not finding.narrow) (Some contents) finding.file) _
      (numbers_one (of_keys (key_width (not finding.narrow))) contents finding.file)
      (λ keys. then_one _ _ (hints_one contents finding.hints)
      (λ _. then_one _ _ (script_one ScriptKind.Find contents finding.script) (λ lines. gives_one _)))
  reads_one (drill drilling) = gives_one _
  reads_one (save building) =
      then_one (reads_index (Some contents) building) _ (index_one building) (λ keys. gives_one _)
  reads_one (check checking) = then_one (reads_keys (not checking.narrow) (Some contents) checking.file) _
      (numbers_one (of_keys (key_width (not checking.narrow))) contents checking.file)
      (λ keys. then_one (reads_saved (Some contents) checking.index) _
      (saved_one contents checking.index) (λ saved. judges_one keys saved))
