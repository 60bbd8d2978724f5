-- The place is taken or left as the highest and as the lowest.
use Rattle.std.proofs.Common.{inl, inr, ap, refl, subst}
use Rattle.exact_cross.specs.PointLists.{points_in}
use Rattle.segmenter.specs.declared.whole.Extremes.{Extremes}
use Rattle.segmenter.proofs.WholeLemmas.{IsTaken, IsLeft, AreExtremes-looked}
use Rattle.segmenter.proofs.whole.Extremes.look_at.Goals as goal
use Rattle.segmenter.proofs.whole.Extremes.look_at.Goals.{then-comes_first, else-comes_first}

pub returns-then-comes_first-2-clause-more : goal.returns-then-comes_first-2-clause-more
returns-then-comes_first-2-clause-more g c = λ s e start end so_far.
    let h = c.height-height.result in
    let place = c.args.place in
    let lower : IsTaken h c.if-comes_first.self.bottom_height place c.if-comes_first.self.bottom =
    (c.if-comes_first-2.ensures.above, c.if-comes_first-2.ensures.before) in
    elim c.if-comes_first.branch [
      | then-comes_first w ↦
          AreExtremes-looked
          (points_in c.args.points) s e place h c.args.self.now _ so_far start end c.height-height.ensures.height
          (ap (λ (f : Extremes). f.line) w.self-is)
          (inl (
            ap (λ (f : Extremes). f.top) w.self-is,
            ap (λ (f : Extremes). f.top_height) w.self-is,
            (w.if-comes_first.ensures.above, w.if-comes_first.ensures.before),
          ))
          (inl (refl, refl, subst (λ (f : Extremes). IsTaken h f.bottom_height place f.bottom) w.self-is lower))
      | else-comes_first w ↦
          AreExtremes-looked
          (points_in c.args.points) s e place h c.args.self.now _ so_far start end c.height-height.ensures.height
          (ap (λ (f : Extremes). f.line) w.self-is)
          (inr (
            ap (λ (f : Extremes). f.top) w.self-is,
            ap (λ (f : Extremes). f.top_height) w.self-is,
            (w.if-comes_first.ensures.not_above, w.if-comes_first.ensures.not_before),
          ))
          (inl (refl, refl, subst (λ (f : Extremes). IsTaken h f.bottom_height place f.bottom) w.self-is lower))
    ]

pub returns-else-comes_first-2-clause-more : goal.returns-else-comes_first-2-clause-more
returns-else-comes_first-2-clause-more g c = λ s e start end so_far.
    let h = c.height-height.result in
    let place = c.args.place in
    let lower : IsLeft h c.if-comes_first.self.bottom_height place c.if-comes_first.self.bottom =
    (c.if-comes_first-2.ensures.not_above, c.if-comes_first-2.ensures.not_before) in
    elim c.if-comes_first.branch [
      | then-comes_first w ↦
          AreExtremes-looked
          (points_in c.args.points) s e place h c.args.self.now _ so_far start end c.height-height.ensures.height
          (ap (λ (f : Extremes). f.line) w.self-is)
          (inl (
            ap (λ (f : Extremes). f.top) w.self-is,
            ap (λ (f : Extremes). f.top_height) w.self-is,
            (w.if-comes_first.ensures.above, w.if-comes_first.ensures.before),
          ))
          (inr (
            ap (λ (f : Extremes). f.bottom) w.self-is,
            ap (λ (f : Extremes). f.bottom_height) w.self-is,
            subst (λ (f : Extremes). IsLeft h f.bottom_height place f.bottom) w.self-is lower,
          ))
      | else-comes_first w ↦
          AreExtremes-looked
          (points_in c.args.points) s e place h c.args.self.now _ so_far start end c.height-height.ensures.height
          (ap (λ (f : Extremes). f.line) w.self-is)
          (inr (
            ap (λ (f : Extremes). f.top) w.self-is,
            ap (λ (f : Extremes). f.top_height) w.self-is,
            (w.if-comes_first.ensures.not_above, w.if-comes_first.ensures.not_before),
          ))
          (inr (
            ap (λ (f : Extremes). f.bottom) w.self-is,
            ap (λ (f : Extremes). f.bottom_height) w.self-is,
            subst (λ (f : Extremes). IsLeft h f.bottom_height place f.bottom) w.self-is lower,
          ))
    ]
