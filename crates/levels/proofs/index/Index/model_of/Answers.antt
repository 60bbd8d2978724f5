-- The level's model of the run.
use Rattle.std.proofs.Common.{◌≡◌, ℕ, ◌<◌, ◌∙◌, length, slice_index_or, sym, ap, subst, arith}
use Rattle.exact_cross.specs.declared.line.Line.{Line}
use Rattle.levels.specs.declared.level.Level.{Level}
use Rattle.levels.specs.declared.model.RunModel.{RunModel}
use Rattle.levels.specs.Models.{IsModelOf}
use Rattle.levels.proofs.StoredLemmas.{segments_of-count}
use Rattle.levels.proofs.index.Index.model_of.Goals as goal

same_model : (line : Line) (first high eps : ℕ) (one two : RunModel) →
    one ≡ two → IsModelOf line first high eps one → IsModelOf line first high eps two
same_model line first high eps one two is model = subst (IsModelOf line first high eps) is model

pub returns : goal.returns
returns c =
    let own = c.self.inside in
    let levels = own.stored.items in
    let inside : c.args.level < length levels =
    omega (arith, segments_of-count levels, rw (← c.self.view_is) at c.requires.inside) in
    let level = c.index-level.result.now in
    let models = c.self.invariant.stored.first.models c.args.level level inside in
    let model = c.index.result.now in
    let is : slice_index_or (slice_index_or levels c.args.level level).models.items c.args.run model ≡ model = sym
    (c.index.ensures ∙ ap (λ (l : Level). slice_index_or l.models.items c.args.run model) c.index-level.ensures) in
    rw (← c.self.view_is)
    (λ e d ends.
    same_model _ _ _ _ _ _ is (models.each c.args.run e d model (rw (← c.self.view_is) at c.requires.run) ends))
