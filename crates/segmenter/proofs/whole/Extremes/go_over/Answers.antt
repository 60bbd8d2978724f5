use Rattle.std.proofs.Common.{◌≡◌, ◌∙◌, arith}
use Rattle.segmenter.proofs.whole.Extremes.go_over.Goals as goal

pub loop-at-preserved : goal.loop-at-preserved
loop-at-preserved g c =
    let so_far = c.loop-at.invariant in
    record {
      from_first = omega arith;
      within = omega arith;
      so_far = c.if-not-pass_block.ensures.more c.args.from c.args.to so_far.from_first (omega arith) so_far.so_far;
      line = c.if-not-pass_block.ensures.line ∙ so_far.line;
      cost = omega arith;
    }

pub returns-clause-all : goal.returns-clause-all
returns-clause-all g c =
    let at_end : c.loop-at.at ≡ c.args.to = omega (arith, c.loop-at.invariant.within) in
    rw at_end at c.loop-at.invariant.so_far
