use Rattle.std.proofs.Common.{◌≡◌, ◌∙◌, arith}
use Rattle.segmenter.proofs.whole.Extremes.pass_block.Goals as goal

pub loop-at-preserved : goal.loop-at-preserved
loop-at-preserved g c =
    let so_far = c.loop-at.invariant in
    record {
      from_first = omega arith;
      within = omega arith;
      so_far = λ s e start end h.
          c.if-not-pass_part.ensures.more s e (omega arith) (omega arith) (so_far.so_far s e start end h);
      line = c.if-not-pass_part.ensures.line ∙ so_far.line;
      cost = omega arith;
    }

pub returns-clause-more : goal.returns-clause-more
returns-clause-more g c = λ s e start end h.
    let at_end : c.loop-at.at ≡ c.args.to = omega (arith, c.loop-at.invariant.within) in
    rw at_end at (c.loop-at.invariant.so_far s e start end h)
