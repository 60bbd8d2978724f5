-- How many steps a call takes, by a bound on two to their number.
use Rattle.std.specs.Prelude.{◌≡◌, ℕ, ◌+◌, ◌*◌, ◌-◌, ◌≤◌, ◌^◌}

-- from `before` to `after` t steps were taken, with 2 ^ t at most `bound`
pub record TakesAtMost (bound before after : ℕ) : Type 0 where
  pub t : ℕ
  pub taken : after ≡ before + t
  pub within : 2 ^ t ≤ bound

-- a lookup: the product over the levels of four times the places that a window of the level can have
abbrev pub lookup_bound : ℕ → ℕ → ℕ → ℕ
lookup_bound eps eps_rec levels = 4 * (2 * eps + 3) * (4 * (2 * eps_rec + 3)) ^ (levels - 1)
