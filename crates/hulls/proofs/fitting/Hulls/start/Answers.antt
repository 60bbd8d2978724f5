-- The run of one point.
use Rattle.std.proofs.Common.{◌-◌, ℕ, refl, ap, sym, arith}
use Rattle.hulls.specs.Hulls.{mirrored}
use Rattle.hulls.proofs.NewPoint.{StandsFor-one}
use Rattle.hulls.proofs.fitting.Hulls.start.Goals as goal

pub returns-clause-stands : goal.returns-clause-stands
returns-clause-stands c = λ p ascends inside at_x at_y.
    let eps = c.args.self.now.eps in
    StandsFor-one (record { steep = c.start.new.self; flat = c.start-2.new.self; eps = eps; last = c.args.place })
    p eps c.args.place c.args.x c.args.y ascends inside
    (omega (arith, at_y)) refl refl c.requires.bounded
    (c.start.ensures.hull p eps (record { inside = inside; x = sym at_x; height = sym at_y }))
    (c.start-2.ensures.hull
    (mirrored p) eps (record { inside = inside; x = sym at_x; height = ap (λ (t : ℕ). 4294967295 - t) (sym at_y) }))
