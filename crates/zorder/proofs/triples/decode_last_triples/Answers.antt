-- The coordinates of one more code.
use Rattle.std.proofs.Common.{◌≡◌, ◌≢◌, get_or, ◌∙◌, arith, lit<, get_or-set_other}
use Rattle.zorder.specs.Codes.{coordinate}
use Rattle.zorder.proofs.CodeLemmas.{coordinate-shr}
use Rattle.zorder.proofs.ColumnLemmas.{set_next}
use Rattle.zorder.proofs.triples.decode_last_triples.Goals as goal

pub loop-i-preserved : goal.loop-i-preserved
loop-i-preserved c =
    let i = c.loop-i.i in
    let codes = c.args.codes.now in
    let second : c.gather-in-loop-i.result ≡ coordinate 3 1 (get_or codes i 0) = c.gather-in-loop-i.ensures
    ∙ coordinate-shr 3 1 (get_or codes i 0) (lit< tt) (c.type_inv.codes i).fits in
    let third : c.gather-in-loop-i-2.result ≡ coordinate 3 2 (get_or codes i 0) = c.gather-in-loop-i-2.ensures
    ∙ coordinate-shr 3 2 (get_or codes i 0) (lit< tt) (c.type_inv.codes i).fits in
    record {
      firsts_before = λ k below.
          let apart : k ≢ i = omega arith in
          get_or-set_other c.loop-i.firsts i k c.gather.result 0 apart ∙ c.loop-i.invariant.firsts_before k below;
      seconds_before = λ k below.
          let apart : k ≢ i = omega arith in
          get_or-set_other c.loop-i.seconds i k c.gather-in-loop-i.result 0 apart
          ∙ c.loop-i.invariant.seconds_before k below;
      thirds_before = λ k below.
          let apart : k ≢ i = omega arith in
          get_or-set_other c.loop-i.thirds i k c.gather-in-loop-i-2.result 0 apart
          ∙ c.loop-i.invariant.thirds_before k below;
      firsts = set_next c.loop-i.firsts (λ k. coordinate 3 0 (get_or codes k 0)) c.args.from i c.gather.result
          (omega arith) c.gather.ensures c.loop-i.invariant.firsts;
      seconds = set_next c.loop-i.seconds (λ k. coordinate 3 1 (get_or codes k 0))
          c.args.from i c.gather-in-loop-i.result (omega arith) second c.loop-i.invariant.seconds;
      thirds = set_next c.loop-i.thirds (λ k. coordinate 3 2 (get_or codes k 0))
          c.args.from i c.gather-in-loop-i-2.result (omega arith) third c.loop-i.invariant.thirds;
    }
