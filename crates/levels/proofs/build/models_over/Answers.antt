-- One model more.
use Rattle.std.proofs.Common.{◌+◌, [], ◌∷◌, length, ap, ◌∙◌}
use Rattle.std.proofs.lemmas.List.{length-append}
use Rattle.levels.proofs.ModelRuns.{models_more}
use Rattle.levels.proofs.build.models_over.Goals as goal

pub loop-run-preserved : goal.loop-run-preserved
loop-run-preserved c =
    let inv = c.loop-run.invariant in
    let models = c.loop-run.models.items in
    let model = c.model_at.result in
    let is = c.in_ok-push.ensures.items in
    record {
      count = ap length is ∙ length-append models (model ∷ []) ∙ ap (λ n. n + 1) inv.count;
      each = rw is (models_more c.args.points.xs.now c.args.points.ys.now
          c.args.segments.now c.args.eps c.loop-run.run models model inv.count inv.each c.model_at.ensures);
    }
