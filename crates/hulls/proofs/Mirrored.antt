-- The flat pair of points is the steep pair of the points upside down.
use Rattle.std.proofs.Common.{◌≡◌, ℕ, ◌+◌, ◌*◌, ◌-◌, ◌^◌, ◌<◌, ◌≤◌, ap, arith}
use Rattle.exact_cross.specs.Points.{Points, IsAscending}
use Rattle.exact_cross.specs.Slopes.{IsAtMost, steep_slope, flat_slope}
use Rattle.exact_cross.specs.Steep.{IsSteepPair, IsFlatPair}
use Rattle.exact_cross.proofs.CallerLemmas.{products_le-out, products_le-in}
use Rattle.hulls.specs.Hull.{RiseRight}
use Rattle.hulls.specs.Hulls.{mirrored}

pub RiseRight-ascending : (p : Points) → IsAscending p → RiseRight p
RiseRight-ascending p ascends = record { rises = ascends.x_rises }

pub RiseRight-mirrored : (p : Points) → IsAscending p → RiseRight (mirrored p)
RiseRight-mirrored p ascends = record { rises = ascends.x_rises }

-- the height upside down, and times a gap
turned : (p : Points) (j r : ℕ) → p.y j < 2 ^ 32 → (4294967295 - p.y j) * r + p.y j * r ≡ 4294967295 * r
turned p j r low =
    let whole : (4294967295 - p.y j) + p.y j ≡ 4294967295 = omega arith in omega (arith, ap (λ (t : ℕ). t * r) whole)

-- steep slopes upside down are flat slopes in the other order
pub flat-from_mirrored : (p : Points) (eps a b c d : ℕ) →
    p.y a < 2 ^ 32 → p.y b < 2 ^ 32 → p.y c < 2 ^ 32 → p.y d < 2 ^ 32 →
    IsAtMost (steep_slope (mirrored p) eps a b) (steep_slope (mirrored p) eps c d) →
    IsAtMost (flat_slope p eps c d) (flat_slope p eps a b)
flat-from_mirrored p eps a b c d low_a low_b low_c low_d most =
    let ab = p.x b - p.x a in
    let cd = p.x d - p.x c in
    let sums = products_le-out (4294967295 - p.y b + 2 * eps)
    (4294967295 - p.y a) cd (4294967295 - p.y d + 2 * eps) (4294967295 - p.y c) ab most.at_most in
    record {
      at_most = products_le-in (p.y d) (p.y c + 2 * eps) ab (p.y b) (p.y a + 2 * eps) cd
          (omega (arith, sums, turned p a cd low_a, turned p b cd low_b, turned p c ab low_c, turned p d ab low_d));
    }

pub mirrored-from_flat : (p : Points) (eps a b c d : ℕ) →
    p.y a < 2 ^ 32 → p.y b < 2 ^ 32 → p.y c < 2 ^ 32 → p.y d < 2 ^ 32 →
    IsAtMost (flat_slope p eps c d) (flat_slope p eps a b) →
    IsAtMost (steep_slope (mirrored p) eps a b) (steep_slope (mirrored p) eps c d)
mirrored-from_flat p eps a b c d low_a low_b low_c low_d most =
    let ab = p.x b - p.x a in
    let cd = p.x d - p.x c in
    let sums = products_le-out (p.y d) (p.y c + 2 * eps) ab (p.y b) (p.y a + 2 * eps) cd most.at_most in
    record {
      at_most = products_le-in
          (4294967295 - p.y b + 2 * eps) (4294967295 - p.y a) cd (4294967295 - p.y d + 2 * eps) (4294967295 - p.y c) ab
          (omega (arith, sums, turned p a cd low_a, turned p b cd low_b, turned p c ab low_c, turned p d ab low_d));
    }

pub mirrored_flat-from_steep : (p : Points) (eps a b c d : ℕ) →
    p.y a < 2 ^ 32 → p.y b < 2 ^ 32 → p.y c < 2 ^ 32 → p.y d < 2 ^ 32 →
    IsAtMost (steep_slope p eps a b) (steep_slope p eps c d) →
    IsAtMost (flat_slope (mirrored p) eps c d) (flat_slope (mirrored p) eps a b)
mirrored_flat-from_steep p eps a b c d low_a low_b low_c low_d most =
    let ab = p.x b - p.x a in
    let cd = p.x d - p.x c in
    let sums = products_le-out (p.y b + 2 * eps) (p.y a) cd (p.y d + 2 * eps) (p.y c) ab most.at_most in
    record {
      at_most = products_le-in
          (4294967295 - p.y d) (4294967295 - p.y c + 2 * eps) ab (4294967295 - p.y b) (4294967295 - p.y a + 2 * eps) cd
          (omega (arith, sums, turned p a cd low_a, turned p b cd low_b, turned p c ab low_c, turned p d ab low_d));
    }

-- and a flat slope beside a steep one
pub steep-from_mirrored : (p : Points) (eps a b c d : ℕ) →
    p.y a < 2 ^ 32 → p.y b < 2 ^ 32 → p.y c < 2 ^ 32 → p.y d < 2 ^ 32 →
    IsAtMost (flat_slope (mirrored p) eps a b) (steep_slope (mirrored p) eps c d) →
    IsAtMost (flat_slope p eps c d) (steep_slope p eps a b)
steep-from_mirrored p eps a b c d low_a low_b low_c low_d most =
    let ab = p.x b - p.x a in
    let cd = p.x d - p.x c in
    let sums = products_le-out (4294967295 - p.y b)
    (4294967295 - p.y a + 2 * eps) cd (4294967295 - p.y d + 2 * eps) (4294967295 - p.y c) ab most.at_most in
    record {
      at_most = products_le-in (p.y d) (p.y c + 2 * eps) ab (p.y b + 2 * eps) (p.y a) cd
          (omega (arith, sums, turned p a cd low_a, turned p b cd low_b, turned p c ab low_c, turned p d ab low_d));
    }

pub mirrored-from_steep : (p : Points) (eps a b c d : ℕ) →
    p.y a < 2 ^ 32 → p.y b < 2 ^ 32 → p.y c < 2 ^ 32 → p.y d < 2 ^ 32 →
    IsAtMost (flat_slope p eps c d) (steep_slope p eps a b) →
    IsAtMost (flat_slope (mirrored p) eps a b) (steep_slope (mirrored p) eps c d)
mirrored-from_steep p eps a b c d low_a low_b low_c low_d most =
    let ab = p.x b - p.x a in
    let cd = p.x d - p.x c in
    let sums = products_le-out (p.y d) (p.y c + 2 * eps) ab (p.y b + 2 * eps) (p.y a) cd most.at_most in
    record {
      at_most = products_le-in
          (4294967295 - p.y b) (4294967295 - p.y a + 2 * eps) cd (4294967295 - p.y d + 2 * eps) (4294967295 - p.y c) ab
          (omega (arith, sums, turned p a cd low_a, turned p b cd low_b, turned p c ab low_c, turned p d ab low_d));
    }

pub IsFlatPair-from_mirrored : (p : Points) (eps s e c d : ℕ) →
    ((j : ℕ) → s ≤ j → j < e → p.y j < 2 ^ 32) → IsSteepPair (mirrored p) eps s e c d → IsFlatPair p eps s e c d
IsFlatPair-from_mirrored p eps s e c d low steep =
    let own = steep.pair in
    let low_c = low c own.from_start (omega (arith, own.rises, own.to_end)) in
    let low_d = low d (omega (arith, own.from_start, own.rises)) own.to_end in
    record {
      pair = own;
      greatest = λ a b pair.
          flat-from_mirrored p eps c d a b low_c low_d (low a pair.from_start (omega (arith, pair.rises, pair.to_end)))
          (low b (omega (arith, pair.from_start, pair.rises)) pair.to_end)
          (steep.least a b pair);
      first = λ a b pair ties. steep.first a b pair
          (mirrored-from_flat p eps a b c d (low a pair.from_start (omega (arith, pair.rises, pair.to_end)))
          (low b (omega (arith, pair.from_start, pair.rises)) pair.to_end) low_c low_d ties);
    }
