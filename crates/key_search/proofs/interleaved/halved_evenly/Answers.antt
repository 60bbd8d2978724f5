-- The answer moves the base by no place or by a half.
use Rattle.std.proofs.Common.{◌^◌, ◌<◌, arith}
use Rattle.std.proofs.lemmas.Nat.{pow_pos, pow_below}
use Rattle.key_search.proofs.LaneLemmas.{HasBound-evenly}
use Rattle.key_search.proofs.interleaved.halved_evenly.Goals as goal

pub returns : goal.returns
returns c =
    let half = 2 ^ c.args.shift in
    let some = pow_pos c.args.shift in
    let few : half < 4294967296 = pow_below c.args.shift 32 c.requires.short in
    HasBound-evenly c.args.sorted.keys.now c.args.q c.args.base
    half _ c.from.result c.args.sorted.never_falls some few c.requires.bound (omega arith) c.from.ensures
