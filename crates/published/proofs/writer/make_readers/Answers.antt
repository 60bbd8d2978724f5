use Rattle.std.proofs.Common.{Some, sym, ap, ◌∙◌}
use Rattle.published.specs.Histories.{Front}
use Rattle.published.proofs.writer.make_readers.Goals as goal

pub at-requires : goal.at-requires
at-requires g c = c.told_place-place.ensures.known
    ∙ (c.loop-reader.invariant.known ∙ (c.requires.told ∙ ap (λ (f : Front). Some f) (sym c.again.ensures)))
