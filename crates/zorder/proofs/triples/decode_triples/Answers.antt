-- Four more codes are decoded.
use Rattle.std.proofs.Common.{◌*◌, get_or, ap, ◌∙◌, arith}
use Rattle.std.proofs.lemmas.Simd.{get_or-chunk}
use Rattle.zorder.specs.Codes.{coordinate}
use Rattle.zorder.proofs.ColumnLemmas.{put_four}
use Rattle.zorder.proofs.triples.decode_triples.Goals as goal

pub loop-block-preserved : goal.loop-block-preserved
loop-block-preserved c =
    let at = 4 * c.loop-block.block in
    let codes = c.args.codes.now in
    record {
      firsts = λ i within. put_four c.loop-block.firsts c.four_triples.result.0 (λ k. coordinate 3 0 (get_or codes k 0))
          at c.four_triples.ensures.long.0 (omega arith) c.loop-block.invariant.firsts
          (λ k h. c.four_triples.ensures.first k h ∙ ap (coordinate 3 0) (get_or-chunk at 4 codes k 0 h)) i
          (omega arith);
      seconds =
          λ i within. put_four c.loop-block.seconds c.four_triples.result.1 (λ k. coordinate 3 1 (get_or codes k 0))
          at c.four_triples.ensures.long.1 (omega arith) c.loop-block.invariant.seconds
          (λ k h. c.four_triples.ensures.second k h ∙ ap (coordinate 3 1) (get_or-chunk at 4 codes k 0 h)) i
          (omega arith);
      thirds = λ i within. put_four c.loop-block.thirds c.four_triples.result.2 (λ k. coordinate 3 2 (get_or codes k 0))
          at c.four_triples.ensures.long.2 (omega arith) c.loop-block.invariant.thirds
          (λ k h. c.four_triples.ensures.third k h ∙ ap (coordinate 3 2) (get_or-chunk at 4 codes k 0 h)) i
          (omega arith);
    }
