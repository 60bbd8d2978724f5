use Rattle.std.proofs.Common.{◌≡◌, ◌∙◌, arith}
use Rattle.segmenter.proofs.whole.Extremes.pass_part.Goals as goal

pub loop-place-preserved : goal.loop-place-preserved
loop-place-preserved g c =
    let so_far = c.loop-place.invariant in
    record {
      so_far =
          λ s e start end h. c.look_at.ensures.more s e (omega arith) (omega arith) (so_far.so_far s e start end h);
      line = c.look_at.ensures.line ∙ so_far.line;
      left = omega arith;
      cost = omega arith;
    }

pub returns-clause-more : goal.returns-clause-more
returns-clause-more g c = λ s e start end h.
    let at_end : c.loop-place.place ≡ c.args.to = omega (arith, c.loop-place.auto.place-end (omega arith)) in
    rw at_end at (c.loop-place.invariant.so_far s e start end h)
