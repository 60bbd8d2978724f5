-- The pair's slope is the rise and the run of its line.
use Rattle.std.proofs.Common.{◌≡◌, ℕ, ◌+◌, ◌*◌, ◌-◌, ◌^◌, ◌<◌, ◌≤◌, ◌∙◌, ℤ, pos, ◌-ℤ◌}
use Rattle.std.proofs.Common.{of_z, to_z, w64, Fits, ap, sym, refl, rules, arith}
use Rattle.std.specs.Int.RustNames.{unsigned_abs}
use Rattle.std.proofs.lemmas.Int.{ints}
use lib.Dec.{T}
use lib.Signed.{non_neg}
use Rattle.hulls.specs.declared.vertex.Vertex.{Vertex}
use Rattle.hulls.specs.Hull.{IsVertexOf, lower_of}
use Rattle.hulls.proofs.PairLine.{Rises, Rises-from_stands, line_of_pair-from_slope}
use Rattle.hulls.proofs.fitting.Hulls.line.Goals as goal

-- the rise is not below 0, and has 64 bits
rise_fits : (ya yb eps : ℕ) (rise : ℤ) → ya ≤ yb → yb < 2 ^ 32 → eps ≤ 1048576 → rise ≡ pos (yb + 2 * eps) -ℤ pos ya →
    T (non_neg (to_z w64 (of_z w64 rise))) × Fits w64 (unsigned_abs (to_z w64 (of_z w64 rise)))
rise_fits ya yb eps rise climbs low bounded own =
    let whole : to_z w64 (of_z w64 rise) ≡ pos (yb + 2 * eps - ya) = omega (arith, ints) in
    let small : yb + 2 * eps - ya < 2 ^ 64 = omega arith in
    rw whole (tt, (search rules))

pub overflow_cast-line : goal.overflow_cast-line
overflow_cast-line c =
    let hulls = c.args.self.now in
    let r = c.requires in
    let apart : lower_of hulls.steep ≡ hulls.steep.upper → ⊥ =
    λ same. c.if-low-b.false (ap (λ (v : Vertex). v.place) c.lower-low.ensures ∙ same ∙ sym c.upper-b.ensures) in
    let rises = Rises-from_stands hulls r.0 r.1 r.2 r.3 r.4 apart in
    rw (c.rise_and_run-rise.ensures.rise, rises.own)
    (rise_fits (r.0.y (lower_of hulls.steep)) (r.0.y hulls.steep.upper) r.1 _ rises.climbs rises.low rises.bounded refl)

pub returns-else-low-b-clause-line : goal.returns-else-low-b-clause-line
returns-else-low-b-clause-line c = λ p eps s e stands.
    let hulls = c.args.self.now in
    let apart : lower_of hulls.steep ≡ hulls.steep.upper → ⊥ =
    λ same. c.if-low-b.false (ap (λ (v : Vertex). v.place) c.lower-low.ensures ∙ same ∙ sym c.upper-b.ensures) in
    let rises : Rises p eps c.lower-low.result.place c.upper-b.result hulls.steep.slope.slope =
    rw (c.lower-low.ensures, c.upper-b.ensures) (Rises-from_stands hulls p eps s e stands apart) in
    let point : IsVertexOf p c.lower-low.result =
    rw c.lower-low.ensures (stands.steep.are_points hulls.steep.tangent (omega arith) stands.steep.inside) in
    rw (c.rise_and_run-rise.ensures.rise, c.rise_and_run-rise.ensures.run)
    (line_of_pair-from_slope p eps hulls.eps c.lower-low.result.place
    c.upper-b.result c.lower-low.result hulls.steep.slope.slope c.from-y.result c.from.result
    rises point refl stands.bound c.from-y.ensures c.from.ensures)
