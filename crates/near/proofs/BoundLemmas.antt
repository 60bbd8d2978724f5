-- A code outside of the box of what is as near as a pair is further, so it doesn't stand before the pair.
use Rattle.std.proofs.Common.{◌⊎◌, ℕ, ◌^◌, ◌<◌, ◌≤◌, List, length, inl, inr, arith}
use Rattle.std.proofs.lemmas.Bool.{cases_lt}
use Rattle.zorder.specs.Codes.{IsCode, IsDimension, IsInRange, code}
use Rattle.zorder.proofs.CallerLemmas.{inside_between}
use Rattle.near.specs.Around.{box_around, distance}
use Rattle.near.specs.Kept.{rank}
use Rattle.near.proofs.Distances.{box_is_region, inside_from_distance}
use Rattle.near.proofs.Ranks.{rank_rises}

pub outside_behind : (d : ℕ) (centre : List ℕ) (pair : ℕ × ℕ) (z : ℕ) →
    IsDimension d → IsInRange d centre → d ≤ length centre → pair.1 < 2 ^ 64
    → IsCode d z → (z < code d (box_around d centre pair.0).low) ⊎ (code d (box_around d centre pair.0).high < z)
    → rank pair ≤ rank (distance d centre z, z)
outside_behind d centre pair z is range long small is_code out = elim (cases_lt pair.0 (distance d centre z)) [
  | inl further ↦ rank_rises pair (distance d centre z, z) small further
  | inr near ↦
      let between = inside_between (box_around d centre pair.0) z (box_is_region d centre pair.0 long is range) is_code
      (inside_from_distance d centre pair.0 long z is is_code near) in
      elim out [
        | inl below ↦ absurd (omega (arith, between.0))
        | inr above ↦ absurd (omega (arith, between.1))
      ]
]
