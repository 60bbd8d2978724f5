-- Keys that don't repeat stand at their own number.
use Rattle.std.proofs.Common.{◌≤◌, sym, ap, length, arith}
use Rattle.key_points.specs.KeyPoints.{distinct_of}
use Rattle.key_points.proofs.AloneLemmas.{distinct_of-alone, first_of-alone}
use Rattle.key_points.proofs.keys.Keys.first.Goals as goal

pub returns-then-self-len : goal.returns-then-self-len
returns-then-self-len c =
    let file = c.self.inside.file.items in
    let alone = distinct_of-alone file
    (omega (arith, c.self.invariant.counted, c.if-self-len.true, c.len.ensures, c.self.inside.file.ok.0)) in
    let within : c.args.j ≤ length (distinct_of file) = rw (← c.self.view_is) at c.requires in
    rw (← c.self.view_is)
    (sym (first_of-alone file c.args.j c.self.invariant.never_falls alone (omega (arith, within, ap length alone))))
