use Rattle.std.proofs.Common.{◌≡◌, ◌∙◌, ◌++◌, List, Err, length, refl, ap, arith}
use Rattle.std.proofs.lemmas.List.{append-nil}
use Rattle.log_levels.specs.declared.update.Update.{Update}
use Rattle.log_levels.specs.declared.fault.MapFault.TheVariants.{Full}
use Rattle.log_levels.specs.Accepted.{entries_of}
use Rattle.published.specs.Histories.{updates_of}
use Rattle.published.specs.Writers.{updates_in}
use Rattle.batches.proofs.publishing.publish_batch.Goals as goal

-- nothing was staged, so the entries would be too many
pub unreachable-requires : goal.unreachable-requires
unreachable-requires g c =
    let writer = c.args.writer.now in
    let batch = c.args.batch.now in
    let full : c.stage.result ≡ Err (Full c.in-Err-Full.field-0-0) = c.in-Err-Full.is
    ∙ ap Err c.in-Err-Full.field-0-is in
    let over = (c.stage.ensures.refused.full_only c.in-Err-Full.field-0-0 full).1 (updates_in writer) refl in
    let all : updates_in writer ≡ updates_of writer.history =
    ap (λ (list : List Update). updates_of writer.history ++ list) c.requires.none_staged
    ∙ append-nil (updates_of writer.history) in
    omega (arith, over, c.requires.fits, ap (λ (list : List Update). length (entries_of (list ++ batch))) all)
