use Rattle.std.proofs.Common.{◌≡◌, ◌+◌, ◌/◌, ◌<◌, ◌++◌, Some, length, subst, sym}
use Rattle.std.specs.Arc.{arc_value}
use Rattle.std.proofs.lemmas.Result.{IfOk-weaker}
use Rattle.log_levels.specs.Shapes.{IsLevelFor}
use Rattle.log_levels.proofs.HeldLemmas.{above-greater, same-equal}
use Rattle.log_levels.proofs.GrowthLemmas.{shared-of}
use Rattle.log_levels.proofs.log_map.LogMap.level_with.Goals as goal

pub returns-in-Greater : goal.returns-in-Greater
returns-in-Greater g c =
    let above : c.args.top < c.args.i = above-greater c.args.i c.args.top c.in-Greater.ensures in
    IfOk-weaker c.shared_level.result _ _ (λ level is entries cut.
    subst (IsLevelFor (entries ++ c.args.new.now) ((c.args.self.now.accepted + length c.args.new.now) / 64) c.args.i)
    (sym is)
    (shared-of c.args.self.now
    c.args.new.now c.args.top c.requires.growth.change entries cut c.args.i above c.requires.occupied))
    c.shared_level.ensures

pub returns-in_ok-merged_level-in-Equal : goal.returns-in_ok-merged_level-in-Equal
returns-in_ok-merged_level-in-Equal g c = λ entries cut.
    let same : c.args.i ≡ c.args.top = same-equal c.args.i c.args.top c.in-Equal.ensures in
    let level = c.in_ok-merged_level-in-Equal.field-0 in
    subst (λ i. IsLevelFor (entries ++ c.args.new.now)
    ((c.args.self.now.accepted + length c.args.new.now) / 64) i (Some (arc_value level)))
    (sym same) (c.in_ok-merged_level-in-Equal.ensures entries cut)
