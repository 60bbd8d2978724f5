-- A stored line within the bound of a point, by two sums of naturals:
-- both heights times the line's run, and raised by 2^20 ranks.
use Rattle.std.proofs.Common.{◌≡◌, ◌↔◌, ℕ, ◌+◌, ◌*◌, ◌<◌, ◌≤◌, pos, ℤ, ◌*ℤ◌, IsTrue, leb, ap, arith}
use Rattle.std.proofs.lemmas.Int.{ints}
use Rattle.std.proofs.lemmas.Bool.{leb-true, le-leb}
use borrow.Author.Differences.{up, down}
use Rattle.exact_cross.specs.declared.line.Line.{Line}
use Rattle.exact_cross.specs.Points.{Points}
use Rattle.exact_cross.specs.Lines.{IsWithin, rational}
use Rattle.exact_cross.proofs.Cleared.{IsWithin-in, IsWithin-above, IsWithin-below}

-- a whole number times a natural, as a difference of two products
whole_times : (z : ℤ) (q : ℕ) → up (z *ℤ pos q) + down z * q ≡ down (z *ℤ pos q) + up z * q
whole_times z q = omega (arith, ints)

-- the line raised by 2^20 ranks starts at `lift`
pub record IsRaised (line : Line) (lift : ℕ) : Type 0 where
  pub raised : lift + down line.y0 ≡ up line.y0 + 1048576

-- the line is at most eps above the point, and at most eps below it
pub record IsNear (p : Points) (eps : ℕ) (line : Line) (lift j : ℕ) : Type 0 where
  pub not_above :
      line.rise * p.x j + lift * line.run ≤ line.rise * line.x0 + (p.y j + 1048576) * line.run + eps * line.run
  pub not_below :
      line.rise * line.x0 + (p.y j + 1048576) * line.run ≤ line.rise * p.x j + lift * line.run + eps * line.run

pub IsWithin-from_near : (p : Points) (eps : ℕ) (line : Line) (positive : 0 < line.run) (lift j : ℕ) →
    IsRaised line lift → IsNear p eps line lift j →
    IsWithin p eps (rational line positive) j
IsWithin-from_near p eps line positive lift j raised near =
    let base = whole_times line.y0 line.run in
    let lifted = ap (λ (t : ℕ). t * line.run) raised.raised in
    IsWithin-in p eps (rational line positive) j
    (omega (arith, ints, base, lifted, near.not_above)) (omega (arith, ints, base, lifted, near.not_below))

pub IsNear-from_within : (p : Points) (eps : ℕ) (line : Line) (positive : 0 < line.run) (lift j : ℕ) →
    IsRaised line lift → IsWithin p eps (rational line positive) j →
    IsNear p eps line lift j
IsNear-from_within p eps line positive lift j raised within =
    let base = whole_times line.y0 line.run in
    let lifted = ap (λ (t : ℕ). t * line.run) raised.raised in
    record {
      not_above = omega (arith, ints, base, lifted, IsWithin-above p eps (rational line positive) j within);
      not_below = omega (arith, ints, base, lifted, IsWithin-below p eps (rational line positive) j within);
    }

-- the two comparisons one after the other say whether the line passes the place
pub decided-by_second : (p : Points) (eps : ℕ) (line : Line) (lift j : ℕ) → 0 < line.run → IsRaised line lift →
    line.rise * p.x j + lift * line.run ≤ line.rise * line.x0 + (p.y j + 1048576) * line.run + eps * line.run →
    IsTrue (leb
    (line.rise * line.x0 + (p.y j + 1048576) * line.run) (line.rise * p.x j + lift * line.run + eps * line.run))
    ↔ ((positive : 0 < line.run) × IsWithin p eps (rational line positive) j)
decided-by_second p eps line lift j positive raised first = (
  λ second. (
    positive,
    IsWithin-from_near p eps line positive lift j raised
        (record { not_above = first; not_below = leb-true _ _ second }),
  ),
  λ within. le-leb _ _ (IsNear-from_within p eps line within.0 lift j raised within.1).not_below,
)

pub decided-by_first : (p : Points) (eps : ℕ) (line : Line) (lift j : ℕ) → IsRaised line lift →
    line.rise * line.x0 + (p.y j + 1048576) * line.run + eps * line.run < line.rise * p.x j + lift * line.run →
    IsTrue (leb
    (line.rise * p.x j + lift * line.run) (line.rise * line.x0 + (p.y j + 1048576) * line.run + eps * line.run))
    ↔ ((positive : 0 < line.run) × IsWithin p eps (rational line positive) j)
decided-by_first p eps line lift j raised above = (
  λ first. absurd (omega (arith, leb-true _ _ first)),
  λ within. absurd (omega (arith, (IsNear-from_within p eps line within.0 lift j raised within.1).not_above)),
)
