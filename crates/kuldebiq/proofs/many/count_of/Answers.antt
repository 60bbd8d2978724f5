-- Each key is below the number after the greatest one.
use Rattle.std.proofs.Common.{◌+◌, length, sym, arith}
use Rattle.window_search.proofs.CallerLemmas.{lb-is}
use Rattle.kuldebiq.proofs.many.count_of.Goals as goal

pub returns : goal.returns
returns c =
    let keys = c.args.keys.now in
    sym (lb-is keys (18446744073709551615 + 1) (length keys) (omega arith)
    (λ k inside. omega (arith, (c.type_inv.keys k).fits)) (λ k past inside. absurd (omega (arith, past, inside))))
