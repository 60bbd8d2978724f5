-- One number more.
use Rattle.std.proofs.Common.{refl, arith}
use Rattle.hints.proofs.HintLemmas.{AddsHints-more}
use Rattle.hints.proofs.table.add_table.Goals as goal

pub loop-step-init : goal.loop-step-init
loop-step-init c = (omega arith, record { long = omega arith; same = λ k inside. refl })

pub loop-step-preserved : goal.loop-step-preserved
loop-step-preserved c = (
  c.begun_before-begun.ensures,
  AddsHints-more c.args.head.now.items
      c.loop-step.head.items _ c.loop-step.step _ c.in_ok-push.ensures.items c.loop-step.invariant.1,
)
