-- A list has no more places than the file has keys.
use Rattle.std.proofs.Common.{length, ap, arith}
use Rattle.levels.proofs.LookupLemmas.{ascends}
use Rattle.levels.proofs.index.Index.start_among.Goals as goal

pub overflow_cast-firsts : goal.overflow_cast-firsts
overflow_cast-firsts c =
    let value = c.args.self.now in
    let here = ascends value.keys value.eps value.eps_rec value.levels
    c.requires.laid.never_falls c.requires.laid.index c.args.level (omega (arith, c.requires.inside)) in
    omega (arith, ap length c.firsts.ensures, here.few, c.requires.laid.few)
