-- The flat pair is the steep pair of the points upside down.
use Rattle.std.proofs.Common.{◌∙◌, sym}
use Rattle.hulls.proofs.FlattestLine.{IsFlatLine-stored, IsFlatLine-stored_alone}
use Rattle.hulls.proofs.fitting.Hulls.flat_line.Goals as goal

pub returns-then-low-upper : goal.returns-then-low-upper
returns-then-low-upper c = λ p eps s e stands.
    IsFlatLine-stored_alone c.args.self.now p eps s e c.lower-low.result c.from-height.result stands
    (c.if-low-upper.true ∙ c.upper.ensures) c.lower-low.ensures c.from-height.ensures

pub returns : goal.returns
returns c = λ p eps s e stands.
    IsFlatLine-stored c.args.self.now p eps s e c.lower-low.result c.from-height.result c.from.result
    c.rise_and_run-fall.result.1 c.rise_and_run-fall.result.0 stands
    (λ same. c.if-low-upper.false (same ∙ sym c.upper.ensures)) c.lower-low.ensures c.from-height.ensures
    c.from.ensures c.rise_and_run-fall.ensures.rise c.rise_and_run-fall.ensures.run
