-- The line of the steep pair, from the pair's lower point and its slope.
use Rattle.std.proofs.Common.{◌≡◌, ℕ, ◌+◌, ◌*◌, ◌-◌, ◌^◌, ◌<◌, ◌≤◌, ◌∙◌, ℤ, pos}
use Rattle.std.proofs.Common.{◌-ℤ◌, of_z, to_z, w64, inl, inr, refl, ap, sym, arith}
use Rattle.std.specs.Int.RustNames.{unsigned_abs}
use Rattle.std.proofs.lemmas.Int.{ints}
use Rattle.std.proofs.lemmas.Bool.{cases_lt}
use Rattle.exact_cross.specs.declared.line.Line.{Line}
use Rattle.exact_cross.specs.declared.slope.Slope.{Slope}
use Rattle.exact_cross.specs.Points.{Points}
use Rattle.exact_cross.specs.Slopes.{steep_slope}
use Rattle.exact_cross.specs.Steep.{line_of_pair}
use Rattle.exact_cross.proofs.CallerLemmas.{line_of_pair-rising}
use Rattle.hulls.specs.declared.vertex.Vertex.{Vertex}
use Rattle.hulls.specs.declared.fitting.Hulls.{Hulls}
use Rattle.hulls.specs.Hull.{IsVertexOf, lower_of}
use Rattle.hulls.specs.Hulls.{StandsFor}

-- the pair of two places, and its slope
pub record Rises (p : Points) (eps a b : ℕ) (slope : Slope) : Type 0 where
  pub rises : a < b
  pub own : slope ≡ steep_slope p eps a b
  pub climbs : p.y a ≤ p.y b
  pub low : p.y b < 2 ^ 32
  pub bounded : eps ≤ 1048576

pub Rises-from_stands : (hulls : Hulls) (p : Points) (eps s e : ℕ) →
    StandsFor hulls p eps s e → (lower_of hulls.steep ≡ hulls.steep.upper → ⊥) →
    Rises p eps (lower_of hulls.steep) hulls.steep.upper hulls.steep.slope.slope
Rises-from_stands hulls p eps s e stands apart =
    let own = stands.steep.pair in
    elim (cases_lt (s + 1) e) [
      | inl more ↦
          let pair = (own.pair.steep more).pair in
          record {
            rises = pair.rises;
            own = own.more more;
            climbs = stands.ascends.y_never_falls (lower_of hulls.steep) hulls.steep.upper
                (omega (arith, pair.rises)) (omega (arith, pair.to_end, stands.inside));
            low = stands.low hulls.steep.upper (omega (arith, pair.from_start, pair.rises)) pair.to_end;
            bounded = stands.bounded;
          }
      | inr one ↦ let alone = own.pair.alone (omega (arith, own.some)) in absurd (apart (alone.0 ∙ sym alone.1))
    ]

-- its rise as 64 bits without a sign
rise_of : (ya yb eps : ℕ) (rise : ℤ) → ya ≤ yb → yb < 2 ^ 32 →
    eps ≤ 1048576 → rise ≡ pos (yb + 2 * eps) -ℤ pos ya → unsigned_abs (to_z w64 (of_z w64 rise)) ≡ yb + 2 * eps - ya
rise_of ya yb eps rise climbs low bounded own = omega (arith, ints)

height_of : (y eps : ℕ) (high bound : ℤ) → y < 2 ^ 32 → eps ≤ 1048576 → high ≡ pos y →
    bound ≡ pos eps → to_z w64 (of_z w64 (to_z w64 (of_z w64 high) -ℤ to_z w64 (of_z w64 bound))) ≡ pos y -ℤ pos eps
height_of y eps high bound low bounded same_y same_eps = omega (arith, ints)

pub line_of_pair-from_slope : (p : Points) (eps own_eps a b : ℕ) (low : Vertex) (slope : Slope) (high bound : ℤ) →
    Rises p eps a b slope → IsVertexOf p low → low.place ≡ a → own_eps ≡ eps →
    high ≡ pos low.height → bound ≡ pos own_eps →
    let line : Line =
    record {
      x0 = low.x;
      y0 = to_z w64 (of_z w64 (to_z w64 (of_z w64 high) -ℤ to_z w64 (of_z w64 bound)));
      rise = unsigned_abs (to_z w64 (of_z w64 slope.rise));
      run = slope.run;
    } in
    line ≡ line_of_pair p eps a b
line_of_pair-from_slope p eps own_eps a b low slope high bound rises point here same_eps same_high same_bound =
    let x0 : low.x ≡ p.x a = point.x ∙ ap p.x here in
    let y0 : low.height ≡ p.y a = point.height ∙ ap p.y here in
    let rise = rise_of
    (p.y a) (p.y b) eps slope.rise rises.climbs rises.low rises.bounded (ap (λ (s : Slope). s.rise) rises.own) in
    let run : slope.run ≡ p.x b - p.x a = ap (λ (s : Slope). s.run) rises.own in
    let height = height_of (p.y a) eps high bound
    (omega (arith, rises.climbs, rises.low)) rises.bounded (same_high ∙ ap pos y0) (same_bound ∙ ap pos same_eps) in
    rw (x0, height, rise, run, line_of_pair-rising p eps a b rises.rises) refl
